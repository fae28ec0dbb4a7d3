-- A lowered assignment runs as the assignment that it comes from; so do right sides and calls of cells.
-- What is known of a name says which of the forms of an assignment there can be.
use Rattle.std.proofs.Common.{◌≡◌, Bool, true, false, List, refl, sym, ap, ◌∙◌, subst, Some, None, Option}
use Rattle.std.specs.Prelude.{◌||◌}
use mathlib.Core.Path.{fun_ext}
use Rattle.dpl_syntax.specs.declared.place.Place.{Place}
use Rattle.dpl_sets.specs.TextRanges.{TextRange}
use Rattle.dpl_language.specs.Values.{Value, Index, index_of, array_domain, is_domain, kept_number}
use Rattle.dpl_language.specs.Arithmetic.{assigned, assign_divides, tested_divisor}
use Rattle.dpl_language.specs.Tree.{Placed, AssignTree, ItemTree, Exprs}
use Rattle.dpl_language.specs.Tree.{TargetTree, Whole, Element, CallTree, ReadCall, ResetCall, WriteCall}
use Rattle.dpl_language.specs.Outcome.{Deeds, Done, Run, with_value}
use Rattle.dpl_language.specs.Environment.{Environment, Limits}
use Rattle.dpl_language.specs.Phrases.{item_read, ReadTree, write_op}
use Rattle.dpl_language.specs.Expressions.{found, item_of, values_of, whole_item}
use Rattle.dpl_language.specs.Assignments.{read_or, evaluated, change, assign_array, assign_domain, assign_plain, assign_name, assign_element, assign, cell_call, called, and_no_more}
use Rattle.dpl_language.specs.Loops.{within_budget, named_turn}
use Rattle.dpl_lowered.specs.Known.{Known, Unknown, WholeArray, NoArray, PlainValue, may_be_array, may_be_whole, IsAsKnown, IsKnown}
use Rattle.dpl_lowered.specs.Shapes.{kept, placed}
use Rattle.dpl_lowered.specs.LoweredExpressions.{Times, Once, EachTurn, lowered_item, lowered_exprs}
use Rattle.dpl_lowered.specs.LoweredStatements.{lowered_sign, times_by, lowered_side, lowered_target, target_sign, target_times, lowered_call}
use Rattle.dpl_lowered.proofs.Nests.{kept-enough, hidden_item-value, hidden_item-whole}
use Rattle.dpl_lowered.proofs.Seen.{side-read}
use Rattle.dpl_lowered.proofs.Values.{Allows, value_of-lowered, item_of-lowered, whole_item-lowered, values_of-lowered}

allows : (m : Times) → Allows m None
allows Once = tt
allows EachTurn = tt

-- a place stays where a division may tell it, and perhaps elsewhere
kept-or : (b c : Bool) (at : Place) (w : Value) → tested_divisor c (kept (b || c) at) w ≡ tested_divisor c at w
kept-or true c at w = refl
kept-or false c at w = kept-enough c at w

module _ {N S : Type 0} (limits : Limits) (env : Environment N S) (known : N → Known) (is : IsKnown known env) where
  -- RIGHT SIDES
  pub side-value : (m : Times) (i : ItemTree N) (t : Option Index) (s : S) → Allows m t → item_of limits env (lowered_side known m i) t s ≡ item_of limits env i t s
  side-value m i t s a =
      hidden_item-value limits env (item_read i) (item_read (lowered_item known m i)) (lowered_item known m i) t s ∙ item_of-lowered limits env known is m i t s a

  pub side-whole : (m : Times) (i : ItemTree N) (s : S) → whole_item limits env (lowered_side known m i) s ≡ whole_item limits env i s
  side-whole m i s =
      hidden_item-whole limits env (item_read i) (item_read (lowered_item known m i)) (lowered_item known m i) s ∙ whole_item-lowered limits env known is m i s

  read_or-same : (o : Option (ReadTree N)) (i j : ItemTree N) (go : Value → Run S) (s : S) (done : Deeds) → item_of limits env i None s ≡ item_of limits env j None s
      → read_or limits env o i go s done ≡ read_or limits env o j go s done
  read_or-same None i j go s done e = ap (λ r. with_value r go s done) e
  read_or-same (Some r) i j go s done e = refl

  -- two right sides that are the same cell read or none, and of the same value
  pub evaluated-same : (i j : ItemTree N) (go : Value → Run S) (s : S) (done : Deeds) → item_read i ≡ item_read j → item_of limits env i None s ≡ item_of limits env j None s
      → evaluated limits env i go s done ≡ evaluated limits env j go s done
  evaluated-same i j go s done r e = ap (λ o. read_or limits env o i go s done) r ∙ read_or-same (item_read j) i j go s done e

  pub evaluated-lowered : (m : Times) (i : ItemTree N) (go : Value → Run S) (s : S) (done : Deeds) → evaluated limits env (lowered_side known m i) go s done ≡ evaluated limits env i go s done
  evaluated-lowered m i go s done = evaluated-same (lowered_side known m i) i go s done (side-read known m i) (side-value m i None s (allows m))

  -- ASSIGNMENTS
  change-lowered : (b : Bool) (x : Placed N) (sign : AssignTree) (t : Index) (w : Value) (s : S) (done : Deeds)
      → change limits env x (lowered_sign (b || assign_divides sign.op) sign) t w s done ≡ change limits env x sign t w s done
  change-lowered b x sign t w s done =
      ap (λ r. with_value (found x.at (env.element x.name t s)) (λ old. with_value r (λ w s done. Done (env.put_element x.name t (assigned sign.op None old w) s) done)) s done)
      (kept-or b (assign_divides sign.op) sign.at w)

  assign_element-lowered : (x : Placed N) (sign : AssignTree) (i : ItemTree N) (es : Exprs N) (s : S) (done : Deeds)
      → assign_element limits env x (lowered_sign (assign_divides sign.op) sign) (lowered_side known Once i) (lowered_exprs known es) s done ≡ assign_element limits env x sign i es s done
  assign_element-lowered x sign i es s done =
      evaluated-lowered Once i _ s done
      ∙ ap (λ go. evaluated limits env i go s done) (fun_ext (λ w. fun_ext (λ s. fun_ext (λ done.
      ap (λ r. with_value r (λ vs. change limits env x (lowered_sign (assign_divides sign.op) sign) (index_of vs) w) s done) (values_of-lowered limits env known is es s)
      ∙ ap (λ go. with_value (values_of limits env es s) go s done) (fun_ext (λ vs. fun_ext (λ s. fun_ext (λ done. change-lowered false x sign (index_of vs) w s done))))))))

  assign_array-lowered : (x : Placed N) (sign : AssignTree) (i : ItemTree N) (rs : List TextRange) (o : Option (List TextRange)) (s : S) (done : Deeds)
      → assign_array limits env (placed true x) (lowered_sign true sign) (lowered_side known EachTurn i) rs o s done ≡ assign_array limits env x sign i rs o s done
  assign_array-lowered x sign i rs None s done = evaluated-lowered EachTurn i _ s done
  assign_array-lowered x sign i rs (Some arrays) s done =
      ap (λ turn. within_budget limits sign.at rs (named_turn turn) s done)
      (fun_ext (λ t. fun_ext (λ s. fun_ext (λ done. ap (λ r. with_value r (change limits env x sign t) s done) (side-value EachTurn i (Some t) s tt)))))

  assign_domain-lowered : (m : Times) (x : Placed N) (i : ItemTree N) (s : S) (done : Deeds) → assign_domain limits env (placed true x) (lowered_side known m i) s done ≡ assign_domain limits env x i s done
  assign_domain-lowered m x i s done = evaluated-lowered m i _ s done

  assign_plain-lowered : (m : Times) (told b : Bool) (x : Placed N) (sign : AssignTree) (i : ItemTree N) (s : S) (done : Deeds)
      → assign_plain limits env (placed told x) (lowered_sign (b || assign_divides sign.op) sign) (lowered_side known m i) s done ≡ assign_plain limits env x sign i s done
  assign_plain-lowered m told b x sign i s done =
      evaluated-lowered m i _ s done
      ∙ ap (λ go. evaluated limits env i go s done) (fun_ext (λ v. ap (λ r. with_value r (λ w s done. Done (env.update x.name sign.op w s) done)) (kept-or b (assign_divides sign.op) sign.at v)))

  -- to a name that may be an array's, and to one that is none's
  assign_any-lowered : (x : Placed N) (sign : AssignTree) (i : ItemTree N) (o : Option (List TextRange)) (domain : Bool) (s : S) (done : Deeds)
      → assign_name limits env (placed true x) (lowered_sign true sign) (lowered_side known EachTurn i) o domain s done ≡ assign_name limits env x sign i o domain s done
  assign_any-lowered x sign i (Some rs) domain s done =
      ap (λ o. assign_array limits env (placed true x) (lowered_sign true sign) (lowered_side known EachTurn i) rs o s done) (side-whole EachTurn i s)
      ∙ assign_array-lowered x sign i rs (whole_item limits env i s) s done
  assign_any-lowered x sign i None true s done = assign_domain-lowered EachTurn x i s done
  assign_any-lowered x sign i None false s done = assign_plain-lowered EachTurn true true x sign i s done

  assign_no_array-lowered : (x : Placed N) (sign : AssignTree) (i : ItemTree N) (domain : Bool) (s : S) (done : Deeds)
      → assign_name limits env (placed true x) (lowered_sign (assign_divides sign.op) sign) (lowered_side known Once i) None domain s done ≡ assign_name limits env x sign i None domain s done
  assign_no_array-lowered x sign i true s done = assign_domain-lowered Once x i s done
  assign_no_array-lowered x sign i false s done = assign_plain-lowered Once true false x sign i s done

  assign_name-lowered : (k : Known) (x : Placed N) (sign : AssignTree) (i : ItemTree N) (v : Value) (s : S) (done : Deeds) → IsAsKnown k v
      → assign_name limits env (placed (may_be_whole k) x) (lowered_sign (may_be_array k || assign_divides sign.op) sign) (lowered_side known (times_by (may_be_array k)) i) (array_domain v) (is_domain v) s done
      ≡ assign_name limits env x sign i (array_domain v) (is_domain v) s done
  assign_name-lowered Unknown x sign i v s done a = assign_any-lowered x sign i (array_domain v) (is_domain v) s done
  assign_name-lowered WholeArray x sign i v s done a = assign_any-lowered x sign i (array_domain v) (is_domain v) s done
  assign_name-lowered NoArray x sign i v s done a =
      subst (λ o. assign_name limits env (placed true x) (lowered_sign (assign_divides sign.op) sign) (lowered_side known Once i) o (is_domain v) s done ≡ assign_name limits env x sign i o (is_domain v) s done) (sym a)
      (assign_no_array-lowered x sign i (is_domain v) s done)
  assign_name-lowered PlainValue x sign i v s done a =
      subst (λ o. assign_name limits env (placed false x) (lowered_sign (assign_divides sign.op) sign) (lowered_side known Once i) o (is_domain v) s done ≡ assign_name limits env x sign i o (is_domain v) s done) (sym a.0)
      (subst (λ b. assign_name limits env (placed false x) (lowered_sign (assign_divides sign.op) sign) (lowered_side known Once i) None b s done ≡ assign_name limits env x sign i None b s done) (sym a.1)
      (assign_plain-lowered Once false false x sign i s done))

  pub assign-lowered : (target : TargetTree N) (sign : AssignTree) (i : ItemTree N) (s : S) (done : Deeds)
      → assign limits env (lowered_target known target) (target_sign known target sign) (lowered_side known (target_times known target) i) s done ≡ assign limits env target sign i s done
  assign-lowered (Whole x) sign i s done = assign_name-lowered (known x.name) x sign i (env.get x.name s) s done (is x.name s)
  assign-lowered (Element x shape from es upto) sign i s done = assign_element-lowered x sign i es s done

  -- A CELL'S CALL
  pub cell_call-lowered : (x : Placed N) (call : CallTree N) (s : S) (done : Deeds) → cell_call limits env x (lowered_call known call) s done ≡ cell_call limits env x call s done
  cell_call-lowered x (ReadCall at w from upto) s done = refl
  cell_call-lowered x (ResetCall at from upto) s done = refl
  cell_call-lowered x (WriteCall at w from e upto) s done =
      ap (λ r. with_value r (λ v. called limits env x (write_op w (kept_number v)) and_no_more) s done) (value_of-lowered limits env known is Once e None s tt)
