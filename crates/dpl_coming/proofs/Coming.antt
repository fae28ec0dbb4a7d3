-- Calm statements do the same whatever is to come, with foralls or without.
-- A memory agrees with the one that is the same but for what is to come, and each law goes by the kinds of names.
use Rattle.std.proofs.Common.{◌≡◌, ℕ, List, [], ◌∷◌, refl, sym, ap, ◌∙◌, subst, Option}
use Rattle.dpl_sets.specs.TextRanges.{TextRange}
use Rattle.dpl_language.specs.Tree.{ExprTree, ItemTree, StmtTree, Stmts}
use Rattle.dpl_language.specs.Values.{Value, Index, index_of, ranges_in, array_domain, is_domain}
use Rattle.dpl_language.specs.Ranges.{indices_in, loop_ranges}
use Rattle.dpl_language.specs.Arithmetic.{assigned}
use Rattle.dpl_language.specs.Outcome.{Deeds, Outcome, Done, Stop, Waits}
use Rattle.dpl_language.specs.Environment.{Content, Plain, ArrayOf, CellOf, Limits}
use Rattle.dpl_language.specs.Expressions.{value_of, item_of}
use Rattle.dpl_language.specs.Statements.{exec, exec_all}
use Rattle.dpl_agreement.specs.Agreement.{Simulates, EndsAlike}
use Rattle.dpl_agreement.proofs.RenamedSame.{renamed_stmt-same, renamed_stmts-same, renamed_content-same, renamed_intents-same, renamed_expr-same, renamed_item-same}
use Rattle.dpl_agreement.proofs.RunsAlike.{All-every}
use Rattle.dpl_agreement.proofs.ExpressionsAlike.{value_of-renamed, item_of-renamed}
use Rattle.dpl_agreement.proofs.Agreement.{exec-alike, exec_all-alike}
use Rattle.dpl_words.specs.Words.{intent_at}
use Rattle.dpl_memory.specs.Memory.{VariableKind, PlainKind, Variable, Coming, Memory, value_in, with_value_in, element_in, with_element_in, undealt, declared, declared_array, anew, renewed, given_in, redomained_in, Held, in_memory}
use Rattle.dpl_coming.specs.Taken.{with_coming, ends_with}
use Rattle.dpl_coming.specs.Calm.{calm, CalmIf, AllCalmIf}
use Rattle.dpl_coming.proofs.CalmTrees.{calm-lawful, expr-calm, item-calm}

module _ (rest : Coming) where
  -- NAMES by their kinds
  value-kept : (k : VariableKind) (slot : ℕ) (s : Memory) → value_in k slot s ≡ value_in k slot (with_coming rest s)
  value-kept (PlainKind l) slot s = refl
  value-kept _ slot s = refl

  update-kept : (k : VariableKind) (slot : ℕ) (v : Value) (s : Memory) → with_value_in k slot v (with_coming rest s) ≡ with_coming rest (with_value_in k slot v s)
  update-kept (PlainKind l) slot v s = refl
  update-kept _ slot v s = refl

  element-kept : (k : VariableKind) (slot : ℕ) (t : Index) (s : Memory) → element_in k slot t s ≡ element_in k slot t (with_coming rest s)
  element-kept (PlainKind l) slot t s = refl
  element-kept _ slot t s = refl

  put-kept : (k : VariableKind) (slot : ℕ) (t : Index) (v : Value) (s : Memory) → with_element_in k slot t v (with_coming rest s) ≡ with_coming rest (with_element_in k slot t v s)
  put-kept (PlainKind l) slot t v s = refl
  put-kept _ slot t v s = refl

  given-kept : (k : VariableKind) (slot : ℕ) (s : Memory) → given_in k slot s ≡ given_in k slot (with_coming rest s)
  given-kept (PlainKind l) slot s = refl
  given-kept _ slot s = refl

  undealt-kept : (k : VariableKind) (slot : ℕ) (s : Memory) → undealt k slot (with_coming rest s) ≡ with_coming rest (undealt k slot s)
  undealt-kept (PlainKind l) slot s = refl
  undealt-kept _ slot s = refl

  array-kept : (k : VariableKind) (slot : ℕ) (a : Held) (s : Memory) → declared_array k slot a (with_coming rest s) ≡ with_coming rest (declared_array k slot a s)
  array-kept (PlainKind l) slot a s = refl
  array-kept _ slot a s = refl

  anew-kept : (slots : List ℕ) (s : Memory) → anew slots (with_coming rest s) ≡ with_coming rest (anew slots s)
  anew-kept [] s = refl
  anew-kept (slot ∷ slots) s = ap (renewed slot) (anew-kept slots s)

  pub declare-kept : (x : Variable) (c : Content Variable) (s : Memory) → declared x c (with_coming rest s) ≡ with_coming rest (declared x c s)
  declare-kept x (Plain v) s =
      ap (λ m. undealt x.kind x.slot (with_value_in x.kind x.slot v m)) (anew-kept x.along s)
      ∙ ap (undealt x.kind x.slot) (update-kept x.kind x.slot v (anew x.along s))
      ∙ undealt-kept x.kind x.slot (with_value_in x.kind x.slot v (anew x.along s))
  declare-kept x (ArrayOf over k rs vs) s =
      ap (undealt x.kind x.slot) (array-kept x.kind x.slot _ s) ∙ undealt-kept x.kind x.slot _
  declare-kept x (CellOf k c) s = refl

  redomain-kept : (x : Variable) (rs : List TextRange) (s : Memory) → redomained_in x rs (with_coming rest s) ≡ with_coming rest (redomained_in x rs s)
  redomain-kept x rs s = ap (λ (m : Memory). record m { arrays = (redomained_in x rs s).arrays }) (update-kept x.kind x.slot _ s)

module _ (foralls : Type 0) (rest : Coming) where
  abbrev Same : Unit {0} → Memory → Memory → Type 0
  Same g s1 s2 = s2 ≡ with_coming rest s1

  simulates-coming : (limits : Limits) → Simulates limits (λ x. x) (calm foralls) in_memory in_memory Same
  simulates-coming limits = record {
    lawful = calm-lawful foralls;
    gets = λ x g s1 s2 r f. value-kept rest x.kind x.slot s1 ∙ ap (in_memory.get x) (sym r);
    whole_targets = λ x op g s1 s2 r f. ap array_domain (value-kept rest x.kind x.slot s1 ∙ ap (in_memory.get x) (sym r));
    domain_targets = λ x op g s1 s2 r f. ap is_domain (value-kept rest x.kind x.slot s1 ∙ ap (in_memory.get x) (sym r));
    updates = λ x op v g s1 s2 r f h.
        ap (in_memory.update x op v) r
        ∙ ap (λ w. with_value_in x.kind x.slot (assigned op (intent_at x.slot s1.words.intents) w v) (with_coming rest s1)) (sym (value-kept rest x.kind x.slot s1))
        ∙ update-kept rest x.kind x.slot _ s1;
    elements_at = λ x t g s1 s2 r f. element-kept rest x.kind x.slot t s1 ∙ ap (in_memory.element x t) (sym r);
    elements = λ x items vs g s1 s2 r f e. element-kept rest x.kind x.slot (index_of vs) s1 ∙ ap (in_memory.element x (index_of vs)) (sym r);
    puts_at = λ x t v g s1 s2 r f h. ap (in_memory.put_element x t v) r ∙ put-kept rest x.kind x.slot t v s1;
    puts = λ x items vs v g s1 s2 r f e h. ap (in_memory.put_element x (index_of vs) v) r ∙ put-kept rest x.kind x.slot (index_of vs) v s1;
    declares = λ x c g s1 s2 r f h. ap (in_memory.declare x c) r ∙ declare-kept rest x c s1 ∙ ap (λ c. with_coming rest (in_memory.declare x c s1)) (sym (renamed_content-same c));
    roots = λ x g s1 s2 r f d. ap (in_memory.root x) (sym r);
    deals = λ x root g s1 s2 r f d. ap (in_memory.deal x root) r;
    gives = λ x g s1 s2 r f. given-kept rest x.kind x.slot s1 ∙ ap (in_memory.given x) (sym r);
    suited = λ x item v g s1 s2 r f w e. tt;
    suited_new = λ x item v g s1 s2 r f d e. tt;
    suited_element = λ x item v g s1 s2 r f e. tt;
    suited_once = λ x item v g s1 s2 r f w e. tt;
    suited_turn = λ x item t v g s1 s2 r f w p e. tt;
    suited_initial = λ x over item t v g s1 s2 r f d p e. tt;
    changed = λ x op t old w g s1 s2 r f e h. tt;
    turned = λ x item over g s1 s2 r f e. All-every (λ t. Unit {0}) (λ t. tt) (indices_in (loop_ranges limits.locales over));
    spanned = λ x from items v g s1 s2 r f d e. tt;
    spanned_array = λ x over k from items v vs g s1 s2 r f e h. tt;
    given_holds = λ x v g s1 s2 r f e. tt;
    enters = λ g s1 s2 r. r;
    leaves = λ g h s1 s2 t1 t2 before out r. r;
    intends = λ is g s1 s2 r f. ap (in_memory.intend is) r ∙ ap (λ is. with_coming rest (in_memory.intend is s1)) (sym (renamed_intents-same is));
    ends_forall = λ is g s1 s2 r f. ap (in_memory.intend []) r;
    notes = λ at rs done g s1 s2 r. refl;
    has = λ x op g s1 s2 r f w. refl;
    redomains = λ x op v g s1 s2 r f w h. ap (in_memory.redomain x (ranges_in v)) r ∙ redomain-kept rest x (ranges_in v) s1;
    heres = λ g s1 s2 r. ap in_memory.here (sym r);
    moves = λ k g s1 s2 r m. ap (in_memory.move k) r;
    calls = λ x op g s1 s2 r f. absurd f;
    cells = λ x g s1 s2 r c. absurd c;
    histories = λ x g s1 s2 r c. absurd c;
    begins = λ x rs g s1 s2 r c. absurd c;
    settles = λ x h g s1 s2 r c. absurd c;
  }

  ended : (o p : Outcome Memory) → EndsAlike (λ s1 s2. s2 ≡ with_coming rest s1) o p → p ≡ ends_with rest o
  ended (Done s done) p e = e.2 ∙ ap (λ s. Done s done) e.1
  ended (Stop f done) p e = e
  ended (Waits at c op done) p e = e

  module _ (limits : Limits) where
    -- a calm statement ends the same way
    pub exec-coming : (t : StmtTree Variable) (s : Memory) (done : Deeds) → CalmIf foralls t → exec limits in_memory t (with_coming rest s) done ≡ ends_with rest (exec limits in_memory t s done)
    exec-coming t s done f =
        ended _ _ (subst (λ u. EndsAlike (λ s1 s2. s2 ≡ with_coming rest s1) (exec limits in_memory u s done) (exec limits in_memory t (with_coming rest s) done)) (renamed_stmt-same t)
        (exec-alike limits (λ x. x) (calm foralls) in_memory in_memory Same (simulates-coming limits) t tt f s (with_coming rest s) done refl))

    pub exec_all-coming : (ts : Stmts Variable) (s : Memory) (done : Deeds) → AllCalmIf foralls ts → exec_all limits in_memory ts (with_coming rest s) done ≡ ends_with rest (exec_all limits in_memory ts s done)
    exec_all-coming ts s done f =
        ended _ _ (subst (λ u. EndsAlike (λ s1 s2. s2 ≡ with_coming rest s1) (exec_all limits in_memory u s done) (exec_all limits in_memory ts (with_coming rest s) done)) (renamed_stmts-same ts)
        (exec_all-alike limits (λ x. x) (calm foralls) in_memory in_memory Same (simulates-coming limits) ts tt f s (with_coming rest s) done refl))

    -- expressions have the same values
    pub value-coming : (e : ExprTree Variable) (t : Option Index) (s : Memory) → value_of limits in_memory e t (with_coming rest s) ≡ value_of limits in_memory e t s
    value-coming e t s =
        sym (subst (λ u. value_of limits in_memory u t s ≡ value_of limits in_memory e t (with_coming rest s)) (renamed_expr-same e)
        (value_of-renamed limits (λ x. x) (calm foralls) in_memory in_memory Same (simulates-coming limits) e t tt s (with_coming rest s) refl (expr-calm foralls e t)))

    pub item-coming : (i : ItemTree Variable) (t : Option Index) (s : Memory) → item_of limits in_memory i t (with_coming rest s) ≡ item_of limits in_memory i t s
    item-coming i t s =
        sym (subst (λ u. item_of limits in_memory u t s ≡ item_of limits in_memory i t (with_coming rest s)) (renamed_item-same i)
        (item_of-renamed limits (λ x. x) (calm foralls) in_memory in_memory Same (simulates-coming limits) i t tt s (with_coming rest s) refl (item-calm foralls i t)))
