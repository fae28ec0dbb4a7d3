-- Runs that neither look at what was done before them nor add to that, put together from such.
use Rattle.std.proofs.Common.{◌≡◌, ℕ, zero, suc, Bool, true, false, List, [], ◌∷◌, Result, Ok, Err, None, refl, ap, ◌∙◌}
use Rattle.dpl_syntax.specs.declared.place.Place.{Place}
use Rattle.dpl_language.specs.Tree.{Placed, AssignTree}
use Rattle.dpl_language.specs.Values.{Value, Index, Fault, fault, Budget}
use Rattle.dpl_language.specs.Arithmetic.{assigned, assign_divides, tested_divisor}
use Rattle.dpl_language.specs.Outcome.{Deeds, Done, Stop, Run, with_value, then_do, choose, unless, in_order, repeated}
use Rattle.dpl_language.specs.Environment.{Limits}
use Rattle.dpl_language.specs.Expressions.{found}
use Rattle.dpl_language.specs.Assignments.{change}
use Rattle.dpl_memory.specs.Memory.{VariableKind, PlainKind, Memory, rest_of, Variable, with_value_in, with_element_in, in_memory}
use Rattle.dpl_apart.specs.Workers.{worker_end}
use Rattle.dpl_turns.specs.Alongside.{KeepsRest, IsQuiet}

pub quiet-value : {A : Type 0} (value : Memory → Result A Fault) (go : A → Run Memory) → ((v : A) → IsQuiet (go v)) → IsQuiet (λ s done. with_value (value s) go s done)
quiet-value {A} value go quiet s = by (value s) where
  by : (r : Result A Fault) → (e : Result Memory Fault) × ((done : Deeds) → with_value r go s done ≡ worker_end e done) × KeepsRest s e
  by (Ok v) = quiet v s
  by (Err f) = (Err f, (λ done. refl), tt)

pub quiet-then : (first second : Run Memory) → IsQuiet first → IsQuiet second → IsQuiet (λ s done. then_do (first s done) second)
quiet-then first second one two s = by (one s).0 (one s).1 (one s).2 where
  kept : (u : Memory) (r : Result Memory Fault) → rest_of u ≡ rest_of s → KeepsRest u r → KeepsRest s r
  kept u (Ok m) before behind = behind ∙ before
  kept u (Err f) before behind = tt

  by : (r : Result Memory Fault) → ((done : Deeds) → first s done ≡ worker_end r done) → KeepsRest s r
      → (e : Result Memory Fault) × ((done : Deeds) → then_do (first s done) second ≡ worker_end e done) × KeepsRest s e
  by (Ok u) ends before = ((two u).0, (λ done. ap (λ o. then_do o second) (ends done) ∙ (two u).1 done), kept u (two u).0 before (two u).2)
  by (Err f) ends before = (Err f, (λ done. ap (λ o. then_do o second) (ends done)), tt)

pub quiet-done : (f : Memory → Memory) → ((s : Memory) → rest_of (f s) ≡ rest_of s) → IsQuiet (λ s done. Done (f s) done)
quiet-done f kept s = (Ok (f s), (λ done. refl), kept s)

pub quiet-stop : (f : Fault) → IsQuiet (λ s done. Stop f done)
quiet-stop f s = (Err f, (λ done. refl), tt)

pub quiet-choose : (c : Bool) (first second : Run Memory) → IsQuiet first → IsQuiet second → IsQuiet (choose c first second)
quiet-choose true first second one two s = one s
quiet-choose false first second one two s = two s

pub quiet-unless : (c : Bool) (f : Fault) (go : Run Memory) → IsQuiet go → IsQuiet (unless c f go)
quiet-unless true f go quiet s = quiet-stop f s
quiet-unless false f go quiet s = quiet s

pub quiet-order : (turn : Index → Run Memory) → ((t : Index) → IsQuiet (turn t)) → (ts : List Index) → IsQuiet (in_order turn ts)
quiet-order turn quiet [] s = (Ok s, (λ done. refl), refl)
quiet-order turn quiet (t ∷ ts) s = quiet-then (turn t) (in_order turn ts) (quiet t) (quiet-order turn quiet ts) s

pub quiet-repeated : (n : ℕ) (at : Place) (test : Memory → Result Bool Fault) (body : Run Memory) → IsQuiet body → IsQuiet (repeated n at test body)
quiet-repeated zero at test body quiet s =
    quiet-value test (λ holds. choose holds (λ s done. Stop (fault Budget at) done) (λ s done. Done s done))
    (λ holds. quiet-choose holds (λ s done. Stop (fault Budget at) done) (λ s done. Done s done) (quiet-stop (fault Budget at)) (quiet-done (λ s. s) (λ s. refl))) s
quiet-repeated (suc n) at test body quiet s =
    quiet-value test (λ holds. choose holds (λ s done. then_do (body s done) (repeated n at test body)) (λ s done. Done s done))
    (λ holds. quiet-choose holds (λ s done. then_do (body s done) (repeated n at test body)) (λ s done. Done s done)
    (quiet-then body (repeated n at test body) quiet (quiet-repeated n at test body quiet)) (quiet-done (λ s. s) (λ s. refl))) s

-- ---- what is no variable's
put-rest : (k : VariableKind) (slot : ℕ) (t : Index) (v : Value) (s : Memory) → rest_of (with_element_in k slot t v s) ≡ rest_of s
put-rest (PlainKind k) slot t v s = refl
put-rest _ slot t v s = refl

pub value-rest : (k : VariableKind) (slot : ℕ) (v : Value) (s : Memory) → rest_of (with_value_in k slot v s) ≡ rest_of s
value-rest (PlainKind k) slot v s = refl
value-rest _ slot v s = refl

module _ (limits : Limits) where
  pub quiet-change : (x : Placed Variable) (sign : AssignTree) (t : Index) (w : Value) → IsQuiet (change limits in_memory x sign t w)
  quiet-change x sign t w =
      quiet-value (λ s. found x.at (in_memory.element x.name t s))
      (λ old. with_value (tested_divisor (assign_divides sign.op) sign.at w) (λ w s done. Done (in_memory.put_element x.name t (assigned sign.op None old w) s) done))
      (λ old. quiet-value (λ s. tested_divisor (assign_divides sign.op) sign.at w) (λ w s done. Done (in_memory.put_element x.name t (assigned sign.op None old w) s) done)
      (λ w. quiet-done (in_memory.put_element x.name t (assigned sign.op None old w)) (put-rest x.name.kind x.name.slot t (assigned sign.op None old w))))
