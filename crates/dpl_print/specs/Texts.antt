-- The texts of arguments, and how what was printed grows by them.
-- A fault leaves what was printed before at the front.
use Rattle.std.specs.Prelude.{◌≡◌, ℕ, List, [], ◌∷◌, ◌++◌, map, None, Result, Ok, Err, unwrap_or, pos}
use Rattle.dpl_language.specs.Values.{Fault, Int}
use Rattle.dpl_language.specs.Outcome.{with_ok}
use Rattle.dpl_language.specs.Environment.{Limits}
use Rattle.dpl_language.specs.Phrases.{bare_name}
use Rattle.dpl_language.specs.Expressions.{value_of}
use Rattle.dpl_language.specs.Ranges.{indices_in}
use Rattle.dpl_language.specs.Printing.{printed_array}
use Rattle.dpl_language.specs.Writing.{shown}
use Rattle.dpl_memory.specs.Memory.{ArrayKind, variable, Memory, array_at, in_memory}
use Rattle.dpl_language.specs.Tree.{Kind}
use Rattle.dpl_nodes.specs.declared.step.Argument.{Argument}
use Rattle.dpl_nodes.specs.declared.step.Argument.TheVariants.{Text, Int, Truth, Array}
use Rattle.dpl_nodes.specs.Typed.{int_view, truth_view}
use Rattle.dpl_frame.specs.Faults.{fault_view}
use Rattle.dpl_loop.specs.declared.stop.RunStop.{RunStop}
use Rattle.dpl_loop.specs.declared.stop.RunStop.TheVariants as stop

-- an array's elements, in the order of its domain
abbrev pub array_text : Kind → ℕ → Memory → List ℕ
array_text k slot s =
    printed_array (array_at slot s).ranges (map (λ t. unwrap_or (in_memory.element (variable (ArrayKind k) slot) t s) (Int (pos 0))) (indices_in (array_at slot s).ranges))

module _ (limits : Limits) where
  abbrev pub argument_text : Argument → Memory → Result (List ℕ) Fault
  argument_text (Text bytes) s = Ok bytes.now
  argument_text (Int e) s = with_ok (value_of limits in_memory (int_view e.now) None s) (λ v. Ok (shown limits in_memory (bare_name (int_view e.now)) v s))
  argument_text (Array k slot) s = Ok (array_text k slot s)
  argument_text (Truth e) s = with_ok (value_of limits in_memory (truth_view e.now) None s) (λ v. Ok (shown limits in_memory (bare_name (truth_view e.now)) v s))

  -- one after another
  abbrev pub arguments_text : List Argument → Memory → Result (List ℕ) Fault
  arguments_text [] s = Ok []
  arguments_text (a ∷ rest) s =
      with_ok (argument_text a s) (λ text. with_ok (arguments_text rest s) (λ more. Ok (text ++ more)))

-- what a text is with more behind it, or the fault in its place
abbrev pub behind : List ℕ → Result (List ℕ) Fault → Result (List ℕ) Fault
behind text more = with_ok more (λ more. Ok (text ++ more))

-- a text grew, or stayed
abbrev pub Grew : List ℕ → List ℕ → Type 0
Grew old new = (more : List ℕ) × (new ≡ old ++ more)

-- a text grew by another; there is the fault, and the text grew somehow; or an entry was refused, which may be
abbrev pub GrewBy : Type 0 → Result (Unit {0}) RunStop → List ℕ → List ℕ → Result (List ℕ) Fault → Type 0
GrewBy may (Ok v) old new more = behind old more ≡ Ok new
GrewBy may (Err (stop.Fault f)) old new more = (more ≡ Err (fault_view f)) × Grew old new
GrewBy may (Err stop.Memory) old new more = Unit {0}
GrewBy may (Err stop.Thread) old new more = Unit {0}
GrewBy may (Err stop.Gate) old new more = may
