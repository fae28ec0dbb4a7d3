-- Assignments, part by part: what each part tells, and what it does, stands behind what the parts before it told and did.
-- A promoted assignment is told by what its right side did: those deeds stand behind the ones that stood there before.
use Rattle.std.proofs.Common.{◌≡◌, Bool, false, List, ◌++◌, length, map, drop, Option, None, sym, ap, ◌∙◌}
use Rattle.std.specs.Prelude.{option_map}
use Rattle.dpl_syntax.specs.declared.refusal.Breach.{Breach}
use Rattle.dpl_language.specs.Tree.{Placed, Assign, AssignTree, ItemTree, Whole}
use Rattle.dpl_language.specs.Names.{Text}
use Rattle.dpl_tree.specs.declared.statement.Element.{Element as ElementNode}
use Rattle.dpl_tree.specs.View.{exprs_view}
use Rattle.dpl_rules.specs.Types.{ValueType, has, is_promoted}
use Rattle.dpl_rules.specs.Verdicts.{type_by, broken_by}
use Rattle.dpl_rules.specs.Breaches.{least_from}
use Rattle.dpl_rules.specs.Sights.{Scopes, Declared, Reducing, lookup, type_declared}
use Rattle.dpl_rules.specs.Expressions.{item_type, exprs_breaches, side_part, side_breaches}
use Rattle.dpl_rules.specs.Deeds.{Deed, item_deeds, exprs_deeds}
use Rattle.dpl_rules.specs.Doings.{written, element_written, target_deeds, target_written}
use Rattle.dpl_rules.specs.Bodies.{promoted_breaches}
use Rattle.dpl_rules.specs.Assignments.{written_name, fitting_target, may_reduce_in}
use Rattle.dpl_scopes.specs.declared.declared.Declared.{Declared as DeclaredNode}
use Rattle.dpl_scopes.specs.View.{declared_view}
use Rattle.dpl_types.proofs.Breaches.{least_from_append}
use Rattle.dpl_types.proofs.Unbroken.{unbroken}
use Rattle.dpl_deeds.specs.declared.deed.Deed.{Deed as DeedNode}
use Rattle.dpl_deeds.specs.View.{deed_view, Adds}
use Rattle.dpl_deeds.proofs.Steps.{added_then, added_behind}
use Rattle.dpl_bodies.specs.Promoted.{promoted_by}
use Rattle.dpl_typed.specs.declared.part.Part.{Part as PartNode}
use Rattle.dpl_typed.specs.Typed.{types_of, part_view}
use Rattle.dpl_assignments.specs.declared.element.Indexed.{Indexed}
use Rattle.dpl_assignments.specs.Told.{element_tree, element_verdict, indexed_types, whole_told, element_told}
use Rattle.dpl_assignments.proofs.Sides.{side_promoted}

-- ---- what is told, one part behind the other
told_then : (o p q : Option Breach) (bs cs : List Breach) → p ≡ least_from o bs → q ≡ least_from p cs → q ≡ least_from o (bs ++ cs)
told_then o p q bs cs first second = second ∙ ap (λ o. least_from o cs) first ∙ sym (least_from_append o bs cs)

-- where nothing was told in the end, nothing was told before
pub told-before : (o p : Option Breach) (bs : List Breach) → p ≡ least_from o bs → p ≡ None → o ≡ None
told-before o p bs told none = (unbroken o bs (sym told ∙ none)).0

-- ---- an assignment to a name
pub promoted-told : (ss : Scopes) (x : Placed Text) (item : ItemTree Text) (target : Option DeclaredNode) (promoted : Bool) (part : PartNode) (old new behind : List DeedNode) (o p : Option Breach)
    → option_map declared_view target ≡ lookup ss x.name → promoted ≡ has is_promoted (types_of part.found) → part_view part ≡ side_part ss item → Adds (item_deeds ss item) old new → behind ≡ drop (length old) new
    → p ≡ least_from o (promoted_by (option_map declared_view target) promoted (map deed_view behind)) → p ≡ least_from o (promoted_breaches ss (Whole x) item)
promoted-told ss x item target promoted part old new behind o p declared is typed added stands told =
    told
    ∙ ap (λ d. least_from o (promoted_by d promoted (map deed_view behind))) declared
    ∙ ap (λ b. least_from o (promoted_by (lookup ss x.name) b (map deed_view behind))) (is ∙ ap (λ p. has is_promoted p.type) typed ∙ side_promoted ss item)
    ∙ ap (λ ds. least_from o (promoted_by (lookup ss x.name) (has is_promoted (item_type ss item)) ds)) (ap (map deed_view) stands ∙ added_behind old new (item_deeds ss item) added)

pub name-told : (ss : Scopes) (x : Placed Text) (sign : AssignTree) (item : ItemTree Text) (forall : Option Reducing) (declared : Option DeclaredNode) (part : PartNode) (may : Bool) (target : Option ValueType) (n o p q r : Option Breach)
    → option_map declared_view declared ≡ lookup ss x.name → may ≡ may_reduce_in forall (option_map declared_view declared) → target ≡ type_declared (option_map declared_view declared) → part_view part ≡ side_part ss item
    → o ≡ least_from n (written_name x.at (option_map declared_view declared)) → p ≡ least_from o (side_breaches ss item) → q ≡ least_from p (fitting_target sign may (part_view part) target)
    → r ≡ least_from q (promoted_breaches ss (Whole x) item) → r ≡ least_from n (whole_told ss forall x sign item)
name-told ss x sign item forall declared part may target n o p q r found may_be typed is named sided fits promoted =
    let fit = fits
    ∙ ap (λ b. least_from p (fitting_target sign b (part_view part) target)) (may_be ∙ ap (may_reduce_in forall) found)
    ∙ ap (λ s. least_from p (fitting_target sign (may_reduce_in forall (lookup ss x.name)) s target)) is
    ∙ ap (λ t. least_from p (fitting_target sign (may_reduce_in forall (lookup ss x.name)) (side_part ss item) t)) (typed ∙ ap type_declared found) in
    let fitting = fitting_target sign (may_reduce_in forall (lookup ss x.name)) (side_part ss item) (type_declared (lookup ss x.name)) in
    let named_all = told_then n o p (written_name x.at (lookup ss x.name)) (side_breaches ss item) (named ∙ ap (λ d. least_from n (written_name x.at d)) found) sided in
    let before = written_name x.at (lookup ss x.name) ++ side_breaches ss item in
    told_then n q r (before ++ fitting) (promoted_breaches ss (Whole x) item) (told_then n p q before fitting named_all fit) promoted

pub name-done : (ss : Scopes) (x : Placed Text) (op : Assign) (item : ItemTree Text) (declared : Option Declared) (o p q : List Deed)
    → declared ≡ lookup ss x.name → p ≡ o ++ item_deeds ss item → q ≡ p ++ written x.at declared op → q ≡ o ++ (target_deeds ss (Whole x) ++ item_deeds ss item ++ target_written ss (Whole x) op)
name-done ss x op item declared o p q found sided wrote =
    wrote ∙ ap (λ d. p ++ written x.at d op) found ∙ added_then o p (item_deeds ss item) (written x.at (lookup ss x.name) op) sided

-- ---- an assignment to an element
pub element-told : (ss : Scopes) (e : ElementNode) (sign : AssignTree) (item : ItemTree Text) (declared : Option DeclaredNode) (x : Option Indexed) (part : PartNode) (target : Option ValueType) (n o p q r : Option Breach)
    → option_map declared_view declared ≡ lookup ss e.name.text.now → target ≡ indexed_types x → indexed_types x ≡ type_by (element_verdict ss e) → part_view part ≡ side_part ss item
    → o ≡ least_from n (written_name e.name.at (option_map declared_view declared)) → p ≡ least_from o (exprs_breaches ss (exprs_view e.exprs) ++ broken_by (element_verdict ss e)) → q ≡ least_from p (side_breaches ss item)
    → r ≡ least_from q (fitting_target sign false (part_view part) target) → r ≡ least_from n (element_told ss e sign item)
element-told ss e sign item declared x part target n o p q r found typed judged is named indexed sided fits =
    let fit = fits
    ∙ ap (λ s. least_from q (fitting_target sign false s target)) is
    ∙ ap (λ t. least_from q (fitting_target sign false (side_part ss item) t)) (typed ∙ judged) in
    let fitting = fitting_target sign false (side_part ss item) (type_by (element_verdict ss e)) in
    let own = exprs_breaches ss (exprs_view e.exprs) ++ broken_by (element_verdict ss e) in
    let before = written_name e.name.at (lookup ss e.name.text.now) ++ own in
    let indexed_all = told_then n o p (written_name e.name.at (lookup ss e.name.text.now)) own (named ∙ ap (λ d. least_from n (written_name e.name.at d)) found) indexed in
    told_then n q r (before ++ side_breaches ss item) fitting (told_then n p q before (side_breaches ss item) indexed_all sided) fit

pub element-done : (ss : Scopes) (e : ElementNode) (op : Assign) (item : ItemTree Text) (declared : Option Declared) (o p q r : List Deed)
    → declared ≡ lookup ss e.name.text.now → p ≡ o ++ exprs_deeds ss (exprs_view e.exprs) → q ≡ p ++ item_deeds ss item → r ≡ q ++ element_written ss e.name.at declared (exprs_view e.exprs) op
    → r ≡ o ++ (target_deeds ss (element_tree e) ++ item_deeds ss item ++ target_written ss (element_tree e) op)
element-done ss e op item declared o p q r found indexed sided wrote =
    let last = element_written ss e.name.at (lookup ss e.name.text.now) (exprs_view e.exprs) op in
    wrote ∙ ap (λ d. q ++ element_written ss e.name.at d (exprs_view e.exprs) op) found
    ∙ added_then o q (exprs_deeds ss (exprs_view e.exprs) ++ item_deeds ss item) last
    (sided ∙ added_then o p (exprs_deeds ss (exprs_view e.exprs)) (item_deeds ss item) indexed)
