-- Where a forall of a resolved program stands, each name in sight of the check has its kind and its slot; and the forall is one of the text's.
use Rattle.std.proofs.Common.{◌≡◌, ℕ, Bool, true, false, List, [], ◌∷◌, ◌++◌, map, Option, Some, None, inl, inr, refl, sym, ap, ◌∙◌}
use Rattle.std.specs.Prelude.{bytes_eq, if◌then◌else◌, option_map}
use Rattle.std.specs.Option.{option_or}
use Rattle.std.proofs.lemmas.Option.{same_Some}
use Rattle.dpl_syntax.specs.declared.place.Place.{Place}
use Rattle.dpl_language.specs.Tree.{Placed, AfterComma, ItemTree, VariablesTree, OneVariable, ManyVariables, LoopWord, ForWord, ForallWord, StmtTree, Declare, Block, If, Headed, Loop, Body, WordBody, BlockBody, Stmts, NoStmts, Then, Else, NoElse, ElseDo}
use Rattle.dpl_language.specs.Names.{Text}
use Rattle.dpl_language.specs.Phrases.{intents_of}
use Rattle.dpl_language.specs.Declarations.{type_of}
use Rattle.dpl_agreement.specs.Renamed.{renamed_item, renamed_with}
use Rattle.dpl_agreement.specs.Scopes.{Form, PlainForm, form_by, add_each, add_variables as add_bound, inside, after}
use Rattle.dpl_rules.specs.Types.{ValueType}
use Rattle.dpl_rules.specs.Sights.{Declared, Scopes, find, lookup, type_declared, enter, add}
use Rattle.dpl_rules.specs.Declarations.{declared_by}
use Rattle.dpl_rules.specs.Loops.{add_variables, variables_of, in_loop, behind}
use Rattle.dpl_rules.specs.Foralls.{ForallIn, foralls, body_foralls, all_foralls, else_foralls}
use Rattle.dpl_scopes.specs.Slots.{next_slot_in, slot_in}
use Rattle.dpl_scopes.proofs.Slots.{slot_in-add}
use Rattle.dpl_memory.specs.Memory.{VariableKind}
use Rattle.dpl_memory.specs.Resolved.{Bound, Sighted, Sight, Known, known_in, innermost, bind, sighted, Seen, Start, resolving}
use Rattle.dpl_typed.specs.Leaves.{kind_by, kind_in, leaf_by}
use Rattle.dpl_bound.specs.Shapes.{shape_by, shape_in}
use Rattle.dpl_bound.specs.Sights.{bound_in}
use Rattle.dpl_bound.specs.Bounds.{bound_new, loop_variable, bound_others, bound_variables, loop_type, bound_declare, bound_stmt, bound_body, bound_stmts, bound_else}
use Rattle.dpl_run.specs.Dealing.{IsAmong}
use Rattle.dpl_run.proofs.EnteredAlike.{EachForall, EachInBody, EachAmong, EachInElse}

-- ---- one more name in sight
abbrev known_of : Sighted → Known
known_of c = (c.kind, c.slot, c.shape)

known_in-after : (x : Text) (c : Sighted) (bs : List Sighted) → known_in x (bs ++ c ∷ []) ≡ (if bytes_eq x c.text then Some (known_of c) else known_in x bs)
known_in-after x c [] = refl
known_in-after x c (b ∷ bs) =
    ap (λ o. option_or o (if bytes_eq x b.text then Some (known_of b) else None)) (known_in-after x c bs) ∙ by (bytes_eq x c.text) (if bytes_eq x b.text then Some (known_of b) else None)
  where
    by : (t : Bool) (own : Option Known) → option_or (if t then Some (known_of c) else known_in x bs) own ≡ (if t then Some (known_of c) else option_or (known_in x bs) own)
    by true own = refl
    by false own = refl

innermost-after : (x : Text) (c : Sighted) (fs : Sight) → innermost x (bind c fs) ≡ (if bytes_eq x c.text then Some (known_of c) else innermost x fs)
innermost-after x c [] = by (bytes_eq x c.text) (known_of c)
  where
    by : (t : Bool) (k : Known) → option_or (option_or None (if t then Some k else None)) None ≡ (if t then Some k else None)
    by true k = refl
    by false k = refl
innermost-after x c (f ∷ fs) = ap (λ o. option_or o (innermost x fs)) (known_in-after x c f) ∙ by (bytes_eq x c.text) (known_of c)
  where
    by : (t : Bool) (k : Known) → option_or (if t then Some k else known_in x f) (innermost x fs) ≡ (if t then Some k else option_or (known_in x f) (innermost x fs))
    by true k = refl
    by false k = refl

lookup-add : (d : Declared) (ss : Scopes) (x : Text) → lookup (add d ss) x ≡ (if bytes_eq x d.origin.name then Some d else lookup ss x)
lookup-add d [] x = by (bytes_eq x d.origin.name)
  where
    by : (t : Bool) → option_or (if t then Some d else None) None ≡ (if t then Some d else None)
    by true = refl
    by false = refl
lookup-add d (s ∷ ss) x = by (bytes_eq x d.origin.name)
  where
    by : (t : Bool) → option_or (if t then Some d else find s x) (lookup ss x) ≡ (if t then Some d else option_or (find s x) (lookup ss x))
    by true = refl
    by false = refl

-- ---- what the check has in sight is in sight of the resolved program, with its kind and its slot
abbrev pub IsSeenAs : Scopes → Seen → Type 0
IsSeenAs ss g = (x : Text) (k : VariableKind) (slot : ℕ) → kind_in ss x ≡ Some k → slot_in ss x ≡ Some slot → innermost x g.frames ≡ Some (k, slot, shape_in ss x)

module _ (start : Start) where
  seen-add : (ss : Scopes) (g : Seen) (d : Declared) (form : Form Bound) → IsSeenAs ss g → IsSeenAs (add d ss) ((resolving start).add (bound_new ss d) form g)
  seen-add ss g d form seen x k slot kind at =
      innermost-after x (sighted (bound_new ss d) form) g.frames
      ∙ by (bytes_eq x d.origin.name) (ap (λ o. kind_by (type_declared o)) (sym (lookup-add d ss x)) ∙ kind) (sym (slot_in-add d ss x) ∙ at)
      ∙ ap (λ o. Some (k, slot, shape_by (type_declared o))) (sym (lookup-add d ss x))
    where
      by : (t : Bool) → kind_by (type_declared (if t then Some d else lookup ss x)) ≡ Some k → (if t then Some (next_slot_in ss) else slot_in ss x) ≡ Some slot
          → (if t then Some (known_of (sighted (bound_new ss d) form)) else innermost x g.frames)
          ≡ Some (k, slot, shape_by (type_declared (if t then Some d else lookup ss x)))
      by true p q =
          ap (λ o. Some ((leaf_by o (Some (next_slot_in ss))).kind, (leaf_by o (Some (next_slot_in ss))).slot, shape_by d.type)) p
          ∙ ap (λ n. Some (k, n, shape_by d.type)) (same_Some (next_slot_in ss) slot q)
      by false p q = seen x k slot p q

  seen-others : (t : Option ValueType) (xs : List (AfterComma (Placed Text))) (ss : Scopes) (g : Seen) → IsSeenAs ss g
      → IsSeenAs (add_variables t (map {A = AfterComma (Placed Text)} {B = Placed Text} (λ x. x.part) xs) ss)
      (add_each (resolving start) (map {A = AfterComma (Placed Bound)} {B = Placed Bound} (λ x. x.part) (bound_others t ss xs)) g)
  seen-others t [] ss g seen = seen
  seen-others t (x ∷ xs) ss g seen =
      seen-others t xs (add (loop_variable t ss x.part.name) ss) _ (seen-add ss g (loop_variable t ss x.part.name) PlainForm seen)

  seen-variables : (t : Option ValueType) (xs : VariablesTree Text) (ss : Scopes) (g : Seen) → IsSeenAs ss g
      → IsSeenAs (add_variables t (variables_of xs) ss) (add_bound (resolving start) (bound_variables t ss xs) g)
  seen-variables t (OneVariable x) ss g seen = seen-add ss g (loop_variable t ss x.name) PlainForm seen
  seen-variables t (ManyVariables from xs upto) ss g seen =
      seen-others t xs.others (add (loop_variable t ss xs.first.name) ss) _ (seen-add ss g (loop_variable t ss xs.first.name) PlainForm seen)

  seen-loop : (word : LoopWord) (xs : VariablesTree Text) (item : ItemTree Text) (ss : Scopes) (g : Seen) → IsSeenAs ss g
      → IsSeenAs (in_loop ss word xs item) (inside (resolving start) (bound_variables (loop_type ss word xs item) (enter ss) xs) g)
  seen-loop word xs item ss g seen = seen-variables (loop_type ss word xs item) xs (enter ss) ((resolving start).enter g) seen

  seen-behind : (t : StmtTree Text) (ss : Scopes) (g : Seen) → IsSeenAs ss g → IsSeenAs (behind ss t) (after (resolving start) (bound_stmt ss t) g)
  seen-behind (Declare d) ss g seen = seen-add ss g (declared_by ss d) (form_by (type_of (bound_declare ss d).typed)) seen
  seen-behind _ ss g seen = seen

-- ---- among
among-left : (f : ForallIn) (xs ys : List ForallIn) → IsAmong f xs → IsAmong f (xs ++ ys)
among-left f [] ys a = absurd a
among-left f (x ∷ xs) ys (inl e) = inl e
among-left f (x ∷ xs) ys (inr a) = inr (among-left f xs ys a)

among-right : (f : ForallIn) (xs ys : List ForallIn) → IsAmong f ys → IsAmong f (xs ++ ys)
among-right f [] ys a = a
among-right f (x ∷ xs) ys a = inr (among-right f xs ys a)

-- ---- a forall of a resolved program is one of the text's, where that stands
pub record StandsAs (fs : List ForallIn) (g : Seen) (at : Place) (over : ItemTree Bound) (body : Body Bound) : Type 0 where
  pub forall : ForallIn
  pub among : IsAmong forall fs
  pub at_word : at ≡ forall.at
  pub runs_over : over ≡ renamed_item (bound_in forall.scopes) forall.over
  pub has_body : body ≡ bound_body (in_loop forall.scopes ForallWord forall.variables forall.over) forall.body
  pub seen : IsSeenAs forall.scopes g

module _ (start : Start) (fs : List ForallIn) where
  mutual
    stmt-stands : (t : StmtTree Text) (ss : Scopes) (g : Seen) → IsSeenAs ss g → ((f : ForallIn) → IsAmong f (foralls ss t) → IsAmong f fs) → EachForall (resolving start) (StandsAs fs) (bound_stmt ss t) g
    stmt-stands (Block from ts upto) ss g seen among = stmts-stand ts (enter ss) ((resolving start).enter g) seen among
    stmt-stands (If at e first second) ss g seen among = (
      body-stands first (enter ss) ((resolving start).enter g) seen (λ f a. among f (among-left f (body_foralls (enter ss) first) (else_foralls (enter ss) second) a)),
      else-stands second ss g seen (λ f a. among f (among-right f (body_foralls (enter ss) first) (else_foralls (enter ss) second) a)),
    )
    stmt-stands (Headed word at e body) ss g seen among = body-stands body (enter ss) ((resolving start).enter g) seen among
    stmt-stands (Loop ForWord at xs within item intents body) ss g seen among = body-stands body (in_loop ss ForWord xs item) _ (seen-loop start ForWord xs item ss g seen) among
    stmt-stands (Loop ForallWord at xs within item intents body) ss g seen among = (
      record {
        forall = record { at = at; scopes = ss; variables = xs; over = item; intents = intents; body = body };
        among = among _ (inl refl);
        at_word = refl;
        runs_over = refl;
        has_body = refl;
        seen = seen;
      },
      body-stands body (in_loop ss ForallWord xs item) _
          (seen-loop start ForallWord xs item ss ((resolving start).intend (intents_of (option_map (renamed_with (bound_in ss)) intents)) g) seen) (λ f a. among f (inr a)),
    )
    stmt-stands _ ss g seen among = tt

    body-stands : (b : Body Text) (ss : Scopes) (g : Seen) → IsSeenAs ss g → ((f : ForallIn) → IsAmong f (body_foralls ss b) → IsAmong f fs) → EachInBody (resolving start) (StandsAs fs) (bound_body ss b) g
    body-stands (WordBody at t) ss g seen among = stmt-stands t ss g seen among
    body-stands (BlockBody from ts upto) ss g seen among = stmts-stand ts ss g seen among

    pub stmts-stand : (ts : Stmts Text) (ss : Scopes) (g : Seen) → IsSeenAs ss g → ((f : ForallIn) → IsAmong f (all_foralls ss ts) → IsAmong f fs) → EachAmong (resolving start) (StandsAs fs) (bound_stmts ss ts) g
    stmts-stand NoStmts ss g seen among = tt
    stmts-stand (Then t rest) ss g seen among = (
      stmt-stands t ss g seen (λ f a. among f (among-left f (foralls ss t) (all_foralls (behind ss t) rest) a)),
      stmts-stand rest (behind ss t) _ (seen-behind start t ss g seen) (λ f a. among f (among-right f (foralls ss t) (all_foralls (behind ss t) rest) a)),
    )

    else-stands : (o : Else Text) (ss : Scopes) (g : Seen) → IsSeenAs ss g → ((f : ForallIn) → IsAmong f (else_foralls (enter ss) o) → IsAmong f fs) → EachInElse (resolving start) (StandsAs fs) (bound_else ss o) g
    else-stands NoElse ss g seen among = tt
    else-stands (ElseDo at t) ss g seen among = stmt-stands t (enter ss) ((resolving start).enter g) seen among
