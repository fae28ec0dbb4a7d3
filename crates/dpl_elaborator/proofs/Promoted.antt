-- The deeds of a chain's operands that stand in promoted pairs: those up to the last pair that is promoted.
-- First what one more operand changes, then what is so of a whole chain.
use Rattle.std.proofs.Common.{◌≡◌, ◌≤◌, ℕ, Bool, true, false, ◌||◌, if◌then◌else◌, List, [], ◌∷◌, ◌++◌, map, take, drop, length, is_some, Option, Some, None, refl, sym, ap, subst, ◌∙◌, append_assoc, length-append, arith}
use Rattle.std.proofs.Math.Seq.{take-length, drop-append_seam}
use Rattle.std.proofs.lemmas.List.{append-nil, take-append-le, take-map, drop-map}
use Rattle.std.proofs.lemmas.Bool.{or_parts}
use Rattle.std.proofs.lemmas.Option.{none-some}
use Rattle.dpl_syntax.specs.declared.place.Place.{Place}
use Rattle.dpl_syntax.specs.declared.refusal.Breach.{Breach}
use Rattle.dpl_language.specs.Tree.{Infix, ExprTree, Links, NoLinks, Link, Chain}
use Rattle.dpl_language.specs.Names.{Text}
use Rattle.dpl_rules.specs.Types.{ValueType, is_promoted, has}
use Rattle.dpl_rules.specs.Sights.{Scopes}
use Rattle.dpl_rules.specs.Breaches.{least_from}
use Rattle.dpl_rules.specs.Deeds.{Deed, expr_deeds, inner_reductions}
use Rattle.dpl_rules.specs.Expressions.{type_of, expr_breaches, chain_breaches, pair_type, has_promoted_pair, inner_deeds, inner_links, inner_chain}
use Rattle.dpl_types.proofs.Breaches.{least_from_append}
use Rattle.dpl_deeds.specs.declared.deed.Deed.{Deed as DeedNode}
use Rattle.dpl_deeds.specs.View.{deed_view}
use Rattle.dpl_elaborator.specs.Inside.{between, Reaches, ReachesSoFar}

same_Some : (m n : ℕ) → Some m ≡ Some n → m ≡ n
same_Some m n e = cc

or-behind : (a b c : Bool) → b ≡ true → (a || (b || c)) ≡ true
or-behind true b c h = refl
or-behind false b c h = ap (λ b. b || c) h

-- where no pair is promoted, no operand stands in one
none_inside : (scopes : Scopes) (t : Option ValueType) (ls : Links Text) → has_promoted_pair scopes t ls ≡ false → inner_links scopes t ls ≡ []
none_inside scopes t NoLinks h = refl
none_inside scopes t (Link at op e rest) h =
    let p = pair_type scopes t at op e in
    ap (λ b. inner_deeds scopes b e ++ inner_links scopes p rest) h
    ∙ none_inside scopes p rest (or_parts (has is_promoted p) (has_promoted_pair scopes p rest) h).1

module _ (scopes : Scopes) (begin : Option ValueType) (all : Links Text) (old : List Deed) where
  abbrev SoFar : Option ValueType → Links Text → List Deed → Option ℕ → Type 0
  SoFar = ReachesSoFar scopes begin all old

  -- at first all are left
  pub reaches-first : SoFar begin all old None
  reaches-first = record { some = refl; more = λ h. refl; ended = λ n e. absurd (none-some n e) }

  -- ---- one more operand
  module _ (t : Option ValueType) (at : Place) (op : Infix) (e : ExprTree Text) (rest : Links Text) (now : List Deed) (upto : Option ℕ)
      (so_far : SoFar t (Link at op e rest) now upto) where
    abbrev pair : Option ValueType
    pair = pair_type scopes t at op e

    abbrev next : List Deed
    next = now ++ expr_deeds scopes e

    -- what is left is all, where a pair from here on is promoted
    all_left : has_promoted_pair scopes t (Link at op e rest) ≡ true → next ++ inner_links scopes pair rest ≡ old ++ inner_links scopes begin all
    all_left some =
        append_assoc now (expr_deeds scopes e) (inner_links scopes pair rest)
        ∙ ap (λ b. now ++ (inner_deeds scopes b e ++ inner_links scopes pair rest)) (sym some)
        ∙ so_far.more some

    promoted : has is_promoted pair ≡ true → SoFar pair rest next (Some (length next))
    promoted is =
        let some : has_promoted_pair scopes t (Link at op e rest) ≡ true = ap (λ b. b || has_promoted_pair scopes pair rest) is in
        record {
          some = so_far.some ∙ or-behind (is_some upto) (has is_promoted pair) (has_promoted_pair scopes pair rest) is;
          more = λ left. all_left some;
          ended = λ n e. subst (λ n. (n ≤ length next) × (has_promoted_pair scopes pair rest ≡ false → take n next ≡ old ++ inner_links scopes begin all)) (same_Some (length next) n e) (
            omega arith,
            λ none. take-length next ∙ sym (append-nil next) ∙ ap (λ ds. next ++ ds) (sym (none_inside scopes pair rest none)) ∙ all_left some,
          );
        }

    unpromoted : has is_promoted pair ≡ false → SoFar pair rest next upto
    unpromoted is = record {
      some = so_far.some ∙ ap (λ b. is_some upto || (b || has_promoted_pair scopes pair rest)) is;
      more = λ left. all_left (ap (λ b. b || has_promoted_pair scopes pair rest) is ∙ left);
      ended = λ n at_n.
          let so = so_far.ended n at_n in (
            let longer = length-append now (expr_deeds scopes e) in omega (arith, so.0, longer),
            λ none. take-append-le n now (expr_deeds scopes e) so.0 ∙ so.1 (ap (λ b. b || has_promoted_pair scopes pair rest) is ∙ none),
          );
    }

    by : (b : Bool) → has is_promoted pair ≡ b → SoFar pair rest next (if b then Some (length next) else upto)
    by true is = promoted is
    by false is = unpromoted is

    pub reaches-next : (u : Option ValueType) (ds : List Deed) (after : Option ℕ) → u ≡ pair → ds ≡ next → after ≡ (if has is_promoted u then Some (length ds) else upto)
        → SoFar u rest ds after
    reaches-next u ds after typed done ended =
        subst (λ (u : Option ValueType). SoFar u rest ds after) (sym typed)
        (subst (λ (ds : List Deed). SoFar pair rest ds after) (sym done)
        (subst (λ (n : Option ℕ). SoFar pair rest next n)
        (sym (ended ∙ ap (λ (u : Option ValueType). if has is_promoted u then Some (length ds) else upto) typed ∙ ap (λ (ds : List Deed). if has is_promoted pair then Some (length ds) else upto) done))
        (by (has is_promoted pair) refl)))

  -- ---- at last none is left
  pub reaches-last : (t : Option ValueType) (now : List Deed) (upto : Option ℕ) → SoFar t NoLinks now upto → Reaches scopes begin all old now upto
  reaches-last t now None so_far = so_far.some
  reaches-last t now (Some n) so_far = (so_far.some, (so_far.ended n refl).1 refl)

-- ---- a whole chain, behind the deeds that stood there before
module _ (scopes : Scopes) (e : ExprTree Text) (rest : Links Text) (before new : List Deed) where
  inner-between : (upto : Option ℕ) → Reaches scopes (type_of scopes e) rest (before ++ expr_deeds scopes e) new upto → between (length before) upto new ≡ inner_chain scopes e rest
  inner-between None none =
      sym (ap (λ b. inner_deeds scopes b e ++ inner_links scopes (type_of scopes e) rest) none ∙ none_inside scopes (type_of scopes e) rest none)
  inner-between (Some n) reaches =
      let inner = inner_links scopes (type_of scopes e) rest in
      ap (drop (length before)) (reaches.1 ∙ append_assoc before (expr_deeds scopes e) inner)
      ∙ drop-append_seam before (expr_deeds scopes e ++ inner)
      ∙ ap (λ b. inner_deeds scopes b e ++ inner) (sym reaches.0)

  -- what is told of it
  pub chain-told : (start : ℕ) (upto : Option ℕ) (o p q r : Option Breach) → start ≡ length before
      → Reaches scopes (type_of scopes e) rest (before ++ expr_deeds scopes e) new upto
      → p ≡ least_from o (expr_breaches scopes e) → q ≡ least_from p (chain_breaches scopes (type_of scopes e) rest) → r ≡ least_from q (inner_reductions (between start upto new))
      → r ≡ least_from o (expr_breaches scopes (Chain e rest))
  chain-told start upto o p q r counted reaches first links inner =
      let own = expr_breaches scopes e in
      let others = chain_breaches scopes (type_of scopes e) rest in
      let ds = inner_chain scopes e rest in
      inner
      ∙ ap (λ ds. least_from q (inner_reductions ds)) (ap (λ n. between n upto new) counted ∙ inner-between upto reaches)
      ∙ ap (λ o. least_from o (inner_reductions ds)) (links ∙ ap (λ o. least_from o others) first ∙ sym (least_from_append o own others))
      ∙ sym (least_from_append o (own ++ others) (inner_reductions ds))

-- the deeds that stand for those between
pub between_view : (start : ℕ) (upto : ℕ) (ds : List DeedNode) → map deed_view (drop start (take upto ds)) ≡ between start (Some upto) (map deed_view ds)
between_view start upto ds = sym (drop-map deed_view start (take upto ds)) ∙ ap (drop start) (sym (take-map deed_view upto ds))
