-- Elements that are written: what a rule that is met, and one that isn't, tells of one; and which array's name stands for it.
use Rattle.std.proofs.Common.{◌≡◌, Bool, true, false, List, [], ◌∷◌, Option, Some, None, sym, ap, ◌∙◌}
use Rattle.std.specs.Prelude.{IfSome}
use Rattle.dpl_syntax.specs.declared.refusal.Breach.{Breach}
use Rattle.dpl_language.specs.Tree.{Placed, Kind, Named}
use Rattle.dpl_rules.specs.Types.{Scalar}
use Rattle.dpl_rules.specs.Verdicts.{type_by, broken_by, judged}
use Rattle.dpl_rules.specs.Sights.{Scopes}
use Rattle.dpl_lowered.specs.Known.{may_be_array}
use Rattle.dpl_lowered.specs.Shapes.{kept}
use Rattle.dpl_memory.specs.Memory.{ArrayKind, Variable, variable, known_variable}
use Rattle.dpl_nodes.specs.Steps.{placed_leaf}
use Rattle.dpl_tree.specs.declared.statement.Element.{Element as ElementNode}
use Rattle.dpl_tree.specs.View.{name_view, exprs_view}
use Rattle.dpl_typed.specs.Leaves.{leaf_in}
use Rattle.dpl_typed.specs.Lowered.{leaves_of, exprs_leaves}
use Rattle.dpl_brackets.specs.Parts.{Passes}
use Rattle.dpl_assignments.specs.declared.element.Indexed.{Indexed}
use Rattle.dpl_assignments.specs.Made.{IsElement, IsIndexed}
use Rattle.dpl_assignments.specs.Told.{TellsElement}

-- ---- what is told
pub index-told : (known : Bool) (bs : List Breach) (k : Kind) (b : Bool) (o p : Option Breach) (x : Indexed) → Passes known bs b o p → b ≡ true → x.kind ≡ k
    → TellsElement (type_by (judged known bs (Scalar k))) (broken_by (judged known bs (Scalar k))) (Some x) o p
index-told true [] k b o p x h e same = (ap (λ l. Some (Scalar l)) same, h.1)
index-told false [] k b o p x h e same = absurd (let f : false ≡ true = sym h.0 ∙ e in cc)
index-told true (c ∷ bs) k b o p x h e same = absurd (let f : false ≡ true = sym h.0 ∙ e in cc)
index-told false (c ∷ bs) k b o p x h e same = absurd (let f : false ≡ true = sym h.0 ∙ e in cc)

-- ---- which array it is
named-same : (a b : Placed Variable) → Named a ≡ Named b → a ≡ b
named-same a b e = cc

pub indexed-named : (ss : Scopes) (e : ElementNode) (x : Indexed) → IsElement (λ m. leaves_of ss m (Named (name_view e.name))) (exprs_leaves ss (exprs_view e.exprs)) x → IsIndexed ss e x
indexed-named ss e x h =
    let leaf = leaf_in ss e.name.text.now in
    let y = variable (ArrayKind x.kind) x.array.now.slot in
    let same : placed_leaf x.array.now.at.now y ≡ placed_leaf (kept (may_be_array (known_variable leaf)) e.name.at) leaf =
    named-same (placed_leaf x.array.now.at.now y) (placed_leaf (kept (may_be_array (known_variable leaf)) e.name.at) leaf) h.0 in
    let variables : y ≡ leaf = ap (λ p. p.name) same in
    record {
      name = same ∙ ap (λ v. placed_leaf (kept (may_be_array (known_variable v)) e.name.at) leaf) (sym variables);
      index = h.1;
    }

pub if_some : {A : Type 0} {P Q : A → Type 0} (r : Option A) → ((a : A) → P a → Q a) → IfSome r P → IfSome r Q
if_some None f p = tt
if_some (Some a) f p = f a p
