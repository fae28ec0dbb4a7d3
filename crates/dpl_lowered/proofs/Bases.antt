-- The base of a lowered access serves it as the tree's base does: it has its value, and a fault tells the same of it.
-- A base is a name or the word `Locales`, perhaps in brackets, or it tells nothing.
use Rattle.std.proofs.Common.{◌≡◌, Bool, true, false, List, refl, sym, ap, ◌∙◌, subst, Ok, Some, None, Result, Option}
use Rattle.dpl_syntax.specs.declared.place.Place.{Place}
use Rattle.dpl_history.specs.declared.cell.CellOp.{CellOp}
use Rattle.dpl_sets.specs.TextRanges.{TextRange}
use Rattle.dpl_language.specs.Tree.{Placed, ExprTree, Named, LocalesWord, Grouped, ItemTree, One, RangeItem, Posts, NoPosts, Post, PostTree, Brackets, Rounds, Dotted, Items, Exprs}
use Rattle.dpl_language.specs.Values.{Value, Array, AllLocales, Index, index_of, array_domain, Fault}
use Rattle.dpl_language.specs.Outcome.{with_ok}
use Rattle.dpl_language.specs.Environment.{Environment, Limits}
use Rattle.dpl_language.specs.Phrases.{Base, BaseName, BaseLocales, OtherBase, base_of, item_base, bare_name, posts_read}
use Rattle.dpl_language.specs.Expressions.{element_of, named, bracketed, value_of, item_of, values_of, post_of}
use Rattle.dpl_agreement.proofs.RunsAlike.{with_ok-same}
use Rattle.dpl_lowered.specs.Known.{Known, Unknown, WholeArray, NoArray, PlainValue, may_be_array, IsAsKnown, IsKnown}
use Rattle.dpl_lowered.specs.Shapes.{placed, in_brackets}
use Rattle.dpl_lowered.specs.LoweredExpressions.{Once, rebased, name_base, read_base, told_base, based, rounds_by, rounds_of, lowered_expr}
use Rattle.dpl_lowered.proofs.Nests.{as_items-values}
use Rattle.dpl_lowered.proofs.Seen.{placeless, brackets-read, rounds-read, base_of-lowered}

-- a value that is no array's
pub no-array : (k : Known) (v : Value) → may_be_array k ≡ false → IsAsKnown k v → array_domain v ≡ None
no-array Unknown v e i = absurd (let no : true ≡ false = e in cc)
no-array WholeArray v e i = absurd (let no : true ≡ false = e in cc)
no-array NoArray v e i = i
no-array PlainValue v e i = i.0

-- NAMES
module _ {N S : Type 0} (limits : Limits) (env : Environment N S) where
  -- a name's place is told at an index of an array alone
  pub named-placed : (b : Bool) (t : Index) (x : Placed N) (o : Option (List TextRange)) (v : Value) (s : S) → (b ≡ false → o ≡ None)
      → named limits env (Some t) (placed b x) o v s ≡ named limits env (Some t) x o v s
  named-placed b t x None v s e = refl
  named-placed true t x (Some rs) v s e = refl
  named-placed false t x (Some rs) v s e = absurd (let no : Some rs ≡ None = e refl in cc)

  -- what an expression gives that is a name or the word `Locales`, but for brackets
  abbrev Gives : Base N → Result Value Fault → S → Type 0
  Gives (BaseName x) r s = r ≡ Ok (env.get x.name s)
  Gives (BaseLocales at) r s = r ≡ Ok AllLocales
  Gives OtherBase r s = Unit {0}

  mutual
    base-gives : (e : ExprTree N) (s : S) → Gives (base_of e) (value_of limits env e None s) s
    base-gives (Named x) s = refl
    base-gives (LocalesWord at) s = refl
    base-gives (Grouped from item upto) s = item-gives item s
    base-gives _ s = tt

    item-gives : (i : ItemTree N) (s : S) → Gives (item_base i) (item_of limits env i None s) s
    item-gives (One e) s = base-gives e s
    item-gives (RangeItem low at dots high by) s = tt

  abbrev NameGives : Option (Placed N) → Result Value Fault → S → Type 0
  NameGives None r s = Unit {0}
  NameGives (Some x) r s = r ≡ Ok (env.get x.name s)

  name-gives : (e : ExprTree N) (s : S) → NameGives (bare_name e) (value_of limits env e None s) s
  name-gives (Named x) s = refl
  name-gives _ s = tt

  in_brackets-value : {B : Type 0} (p : Option B) (e : ExprTree N) (s : S) → value_of limits env (in_brackets p e) None s ≡ value_of limits env e None s
  in_brackets-value None e s = refl
  in_brackets-value (Some y) e s = refl

  read_base-value : (op : Option CellOp) (x : Option (Placed N)) (e : ExprTree N) (r : Result Value Fault) (s : S) → value_of limits env e None s ≡ r → NameGives x r s
      → value_of limits env (read_base op x e) None s ≡ r
  read_base-value None x e r s p g = p
  read_base-value (Some op) (Some x) e r s p g = sym g
  read_base-value (Some op) None e r s p g = in_brackets-value (bare_name e) e s ∙ p

  -- AN ACCESS, by what a fault may tell of its base
  bracketed-unplaced : (x : Placed N) (vs : List Value) (v : Value) (s : S) → array_domain v ≡ None → bracketed limits env (BaseName (placed false x)) vs v s ≡ bracketed limits env (BaseName x) vs v s
  bracketed-unplaced x vs (Array k rs) s e = absurd (let no : Some rs ≡ None = e in cc)
  bracketed-unplaced x vs _ s e = refl

  bracketed-element : (b : Base N) (rs : List TextRange) (vs : List Value) (v : Value) (s : S) → array_domain v ≡ Some rs → bracketed limits env b vs v s ≡ element_of limits env b (index_of vs) s
  bracketed-element b rs vs (Array k ds) s e = refl
  bracketed-element b rs vs _ s e = absurd (let no : None ≡ Some rs = e in cc)

  -- a base serves a post as another does
  abbrev pub Serves : (N → Known) → PostTree N → Base N → Base N → Value → S → Type 0
  Serves known (Brackets from items upto) b c v s = (vs : List Value) → bracketed limits env c vs v s ≡ bracketed limits env b vs v s
  Serves known (Rounds from es upto) b c v s = (es : Exprs N) → post_of limits env (rounds_of known b es) c s v ≡ with_ok (values_of limits env es s) (λ vs. element_of limits env b (index_of vs) s)
  Serves known (Dotted dot m) b c v s = Unit {0}

  abbrev pub ServesFirst : (N → Known) → Posts N → Base N → Base N → Value → S → Type 0
  ServesFirst known NoPosts b c v s = Unit {0}
  ServesFirst known (Post p rest) b c v s = Serves known p b c v s

  pub other-serves : (known : N → Known) (posts : Posts N) (v : Value) (s : S) → ServesFirst known posts OtherBase OtherBase v s
  other-serves known NoPosts v s = tt
  other-serves known (Post (Brackets from items upto) rest) v s = λ vs. refl
  other-serves known (Post (Rounds from es upto) rest) v s = λ es. refl
  other-serves known (Post (Dotted dot m) rest) v s = tt

  -- of the value that a base is given
  given-known : (known : N → Known) → IsKnown known env → (x : Placed N) (r : Result Value Fault) (v : Value) (s : S) → r ≡ Ok (env.get x.name s) → r ≡ Ok v → IsAsKnown (known x.name) v
  given-known known is x r v s g e = subst (IsAsKnown (known x.name)) (let same : Ok (env.get x.name s) ≡ Ok v = sym g ∙ e in cc) (is x.name s)

  -- square brackets behind a base that is told as far as it must be
  brackets-serve : (known : N → Known) → IsKnown known env → (b : Base N) (l : ExprTree N) (r : Result Value Fault) (v : Value) (s : S) (from : Place) (items : Items N) (upto : Place) (rest : Posts N)
      → Gives b r s → r ≡ Ok v → base_of l ≡ placeless b
      → (vs : List Value) → bracketed limits env (base_of (rebased (told_base known (Post (Brackets from items upto) rest) b) l)) vs v s ≡ bracketed limits env b vs v s
  brackets-serve known is (BaseName x) l r v s from items upto rest g e p vs = by_test (may_be_array (known x.name)) refl
    where
      by_test : (c : Bool) → may_be_array (known x.name) ≡ c → bracketed limits env (base_of (rebased (name_base c x) l)) vs v s ≡ bracketed limits env (BaseName x) vs v s
      by_test true q = refl
      by_test false q =
          ap (λ b. bracketed limits env b vs v s) p ∙ bracketed-unplaced x vs v s (no-array (known x.name) v q (given-known known is x r v s g e))
  brackets-serve known is (BaseLocales at) l r v s from items upto rest g e p vs = refl
  brackets-serve known is OtherBase l r v s from items upto rest g e p vs = ap (λ b. bracketed limits env b vs v s) p

  -- round brackets behind a base: behind an array's name they are square ones
  rounds-serve : (known : N → Known) → IsKnown known env → (b : Base N) (l : ExprTree N) (r : Result Value Fault) (v : Value) (s : S) (from : Place) (es : Exprs N) (upto : Place) (rest : Posts N)
      → Gives b r s → r ≡ Ok v → base_of l ≡ placeless b
      → (is : Exprs N) → post_of limits env (rounds_of known b is) (base_of (rebased (told_base known (Post (Rounds from es upto) rest) b) l)) s v ≡ with_ok (values_of limits env is s) (λ vs. element_of limits env b (index_of vs) s)
  rounds-serve known is (BaseName x) l r v s from es upto rest g e p is' = by_known (known x.name) (given-known known is x r v s g e)
    where
      by_known : (k : Known) → IsAsKnown k v → post_of limits env (rounds_by k is') (BaseName x) s v ≡ with_ok (values_of limits env is' s) (λ vs. element_of limits env (BaseName x) (index_of vs) s)
      by_known Unknown i = refl
      by_known WholeArray i = with_ok-same _ _ _ _ (as_items-values limits env is' s) (λ vs. bracketed-element (BaseName x) i.0 vs v s i.1)
      by_known NoArray i = refl
      by_known PlainValue i = refl
  rounds-serve known is (BaseLocales at) l r v s from es upto rest g e p is' = ap (λ b. with_ok (values_of limits env is' s) (λ vs. element_of limits env b (index_of vs) s)) p
  rounds-serve known is OtherBase l r v s from es upto rest g e p is' = ap (λ b. with_ok (values_of limits env is' s) (λ vs. element_of limits env b (index_of vs) s)) p

  -- what is told of a base has its value
  rebased-value : (known : N → Known) (posts : Posts N) (b : Base N) (l : ExprTree N) (r : Result Value Fault) (s : S) → value_of limits env l None s ≡ r → Gives b r s
      → value_of limits env (rebased (told_base known posts b) l) None s ≡ r
  rebased-value known NoPosts b l r s p g = p
  rebased-value known (Post (Brackets from items upto) rest) (BaseName x) l r s p g = by_test (may_be_array (known x.name))
    where
      by_test : (c : Bool) → value_of limits env (rebased (name_base c x) l) None s ≡ r
      by_test true = sym g
      by_test false = p
  rebased-value known (Post (Brackets from items upto) rest) (BaseLocales at) l r s p g = sym g
  rebased-value known (Post (Brackets from items upto) rest) OtherBase l r s p g = p
  rebased-value known (Post (Rounds from es upto) rest) (BaseName x) l r s p g = sym g
  rebased-value known (Post (Rounds from es upto) rest) (BaseLocales at) l r s p g = p
  rebased-value known (Post (Rounds from es upto) rest) OtherBase l r s p g = p
  rebased-value known (Post (Dotted dot m) rest) b l r s p g = p

  -- THE BASE OF A LOWERED TREE
  pub based-value : (known : N → Known) (posts : Posts N) (e : ExprTree N) (s : S) → value_of limits env (lowered_expr known Once e) None s ≡ value_of limits env e None s
      → value_of limits env (based known posts e (lowered_expr known Once e)) None s ≡ value_of limits env e None s
  based-value known posts e s p =
      read_base-value (posts_read posts) (bare_name e) _ (value_of limits env e None s) s
      (rebased-value known posts (base_of e) (lowered_expr known Once e) (value_of limits env e None s) s p (base-gives e s)) (name-gives e s)

  pub first-serves : (known : N → Known) → IsKnown known env → (posts : Posts N) (e : ExprTree N) (v : Value) (s : S) → value_of limits env e None s ≡ Ok v
      → ServesFirst known posts (base_of e) (base_of (based known posts e (lowered_expr known Once e))) v s
  first-serves known is NoPosts e v s p = tt
  first-serves known is (Post (Brackets from items upto) rest) e v s p =
      subst (λ op. Serves known (Brackets from items upto) (base_of e) (base_of (read_base op (bare_name e) (rebased (told_base known (Post (Brackets from items upto) rest) (base_of e)) (lowered_expr known Once e)))) v s)
      (brackets-read from items upto rest)
      (brackets-serve known is (base_of e) (lowered_expr known Once e) (value_of limits env e None s) v s from items upto rest (base-gives e s) p (base_of-lowered known e))
  first-serves known is (Post (Rounds from es upto) rest) e v s p =
      subst (λ op. Serves known (Rounds from es upto) (base_of e) (base_of (read_base op (bare_name e) (rebased (told_base known (Post (Rounds from es upto) rest) (base_of e)) (lowered_expr known Once e)))) v s)
      (rounds-read from es upto rest)
      (rounds-serve known is (base_of e) (lowered_expr known Once e) (value_of limits env e None s) v s from es upto rest (base-gives e s) p (base_of-lowered known e))
  first-serves known is (Post (Dotted dot m) rest) e v s p = tt
