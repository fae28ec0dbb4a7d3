-- What is taken of the input is all of it, or as many bytes as the longest text has and one more.
use Rattle.std.proofs.Common.{◌≡◌, ℕ, List, Option, Some, None, take, [], ◌++◌, ap, ◌∙◌}
use Rattle.std.specs.Prelude.{IfSome}
use Rattle.std.specs.Option.{option_map}
use Rattle.dpl_command.proofs.input.read_text.Goals as goal

-- what is appended to nothing, of the first of the bytes that are left
appended : (left held : Option (List ℕ)) (m n : ℕ) (old new : List ℕ) → held ≡ left → m ≡ n → old ≡ [] → IfSome (option_map (take m) held) (λ xs. new ≡ old ++ xs) → IfSome left (λ bytes. new ≡ take n bytes)
appended None None m n old new same limit empty h = tt
appended None (Some xs) m n old new same limit empty h = tt
appended (Some bytes) None m n old new same limit empty h = absurd cc
appended (Some bytes) (Some xs) m n old new same limit empty h =
    let inner : xs ≡ bytes = cc in
    h ∙ ap (λ l. l ++ take m xs) empty ∙ ap (take m) inner ∙ ap (λ k. take k bytes) limit

pub returns : goal.returns
returns g c =
    appended (g.I.Read.remaining c.args.input) (g.I.Read.remaining c.take.result.inner) c.take.result.limit 1048577 c.new-text.result.items c.read_to_end.new.buf.items
    (ap g.I.Read.remaining c.take.ensures.inner) c.take.ensures.limit c.new-text.ensures.items (c.in_ok-read_to_end.ensures.bytes)
