-- What a declaration says of a root, as the language's meaning has it; and declared domains, with their roots.
-- Each lemma has the meaning on its left side.
use Rattle.std.proofs.Common.{◌≡◌, ℕ, Bor, Option, Some, None, if◌then◌else◌, List, get_or, set, Result, Ok, Err, refl, sym, ap, ◌∙◌}
use Rattle.dpl_sets.specs.TextRanges.{TextRange}
use Rattle.dpl_language.specs.Tree.{Low, One, Plainly, StartExpr}
use Rattle.dpl_language.specs.Values.{Value, Domain, ranges_in, is_distributed, Fault}
use Rattle.dpl_language.specs.Ranges.{least_in, empty_domain}
use Rattle.dpl_language.specs.Distributions.{NoMap, BlockOver, Root, no_root}
use Rattle.dpl_language.specs.Outcome.{Deeds, Done, Run, with_ok, with_value, then_do}
use Rattle.dpl_language.specs.Environment.{Limits, Plain}
use Rattle.dpl_language.specs.Phrases.{cell_read}
use Rattle.dpl_language.specs.Assignments.{evaluated}
use Rattle.dpl_language.specs.Expressions.{value_of}
use Rattle.dpl_language.specs.Statements.{exec}
use Rattle.dpl_language.specs.Roots.{or_no_map, cyclic_or_none, root_by, start_of, derived_over, derived_root}
use Rattle.dpl_lowered.specs.Shapes.{nowhere}
use Rattle.dpl_words.specs.Words.{IntLeaf}
use Rattle.dpl_memory.specs.Memory.{VariableKind, PlainKind, DomainKind, Variable, Memory, variable, no_domain, array_at, value_in, root_in, with_root, in_memory}
use Rattle.dpl_nodes.specs.declared.tree.DomainExpr.{DomainExpr}
use Rattle.dpl_nodes.specs.declared.placing.Placing.{Placing}
use Rattle.dpl_nodes.specs.declared.placing.Placing.TheVariants.{Derived, Mapped, BlockCreated, CyclicCreated}
use Rattle.dpl_nodes.specs.declared.placing.Placing.TheVariants as placing
use Rattle.dpl_nodes.specs.declared.step.Beginning.TheVariants.{Value as ValueNode, Empty}
use Rattle.dpl_nodes.specs.declared.step.Rank.{Rank}
use Rattle.dpl_nodes.specs.declared.step.ArrayDeclaration.{ArrayDeclaration}
use Rattle.dpl_nodes.specs.Roots.{slot_of, slot_by}
use Rattle.dpl_nodes.specs.Typed.{dotted, domain_view}
use Rattle.dpl_nodes.specs.Steps.{dimensions, over_items, domain_declared}
use Rattle.dpl_frame.specs.Frames.{Framed, with_memory}
use Rattle.dpl_simple.proofs.Starting.{start-least, cyclic-named}
use Rattle.dpl_elements.specs.Changes.{ends_as}
use Rattle.dpl_elements.proofs.Changing.{evaluated-item}
use Rattle.dpl_simple.specs.Lineages.{slot_root, valued_root, empty_root}

-- DERIVED: by the slot of a domain or an array
derived-kind : (k : VariableKind) (slot : ℕ) (rs : List TextRange) (s : Memory)
    → (if is_distributed (value_in k slot s) then root_in k slot s.roots else root_by NoMap rs) ≡ slot_root (slot_of k slot) rs s
derived-kind (PlainKind IntLeaf) slot rs s = refl
derived-kind _ slot rs s = refl

-- a slot that holds a domain, without a root, and then with one by the domain
abbrev pub bare : ℕ → Memory → List TextRange → Memory
bare slot s rs = with_root slot no_root (record s { domains = set s.domains slot rs })

abbrev pub rooted_memory : ℕ → Memory → (List TextRange → Root) → List TextRange → Memory
rooted_memory slot s root rs = with_root slot (root (get_or (set s.domains slot rs) slot no_domain)) (bare slot s rs)

module _ (slot : ℕ) (root : List TextRange → Root) (r : Root) (at : List TextRange) where
  -- the root of an array, by the domain that its slot holds
  pub dealt-array : (f g : Framed) → at ≡ (array_at slot f.memory).ranges → r ≡ root at → g ≡ with_memory (with_root slot r f.memory) f
      → with_root slot (root (array_at slot f.memory).ranges) f.memory ≡ g.memory
  dealt-array f g held is dealt =
      sym (ap (λ (g : Framed). g.memory) dealt ∙ ap (λ r. with_root slot r f.memory) (is ∙ ap root held))

  -- and of a domain that was put there
  pub dealt-domain : (rs : List TextRange) (old f g : Framed) → f ≡ with_memory (bare slot old.memory rs) old → at ≡ get_or f.memory.domains slot no_domain → r ≡ root at
      → g ≡ with_memory (with_root slot r f.memory) f → rooted_memory slot old.memory root rs ≡ g.memory
  dealt-domain rs old f g put held is dealt =
      sym (ap (λ (g : Framed). g.memory) dealt
      ∙ ap (λ r. with_root slot r f.memory) (is ∙ ap root held)
      ∙ ap (λ (f : Framed). with_root slot (root (get_or f.memory.domains slot no_domain)) f.memory) put)

module _ (limits : Limits) (s : Memory) where
  pub derived-slot : (o : Option Variable) (rs : List TextRange) → derived_root limits in_memory o rs s ≡ slot_root (slot_by o) rs s
  derived-slot None rs = refl
  derived-slot (Some x) rs = derived-kind x.kind x.slot rs s

  -- CREATED: by the value
  module _ (e : DomainExpr) (value rs : List TextRange) (is : value_of limits in_memory (domain_view e) None s ≡ Ok (Domain value)) where
    pub block-root : valued_root limits e BlockCreated rs s ≡ root_by (BlockOver value) rs
    block-root = ap (λ r. root_by (or_no_map (with_ok r (λ v. Ok (BlockOver (ranges_in v))))) rs) is

    pub cyclic-root : valued_root limits e CyclicCreated rs s ≡ root_by (cyclic_or_none (least_in value)) rs
    cyclic-root =
        ap (λ d. root_by d rs)
        (cyclic-named (start_of limits in_memory (StartExpr (dotted (domain_view e) (Plainly nowhere Low))) s)
        ∙ ap cyclic_or_none (start-least limits s (domain_view e) nowhere Low value is))

  -- DECLARED DOMAINS
  module _ (slot : ℕ) (done : Deeds) where
    -- what is left to do once a domain is there
    abbrev dealing : (List TextRange → Root) → Run Memory
    dealing root after done = Done (with_root slot (root (get_or after.domains slot no_domain)) after) done

    abbrev declaring_value : Value → Run Memory
    declaring_value v s done = Done (in_memory.declare (variable DomainKind slot) (Plain v) s) done

    dealt-value : (root : List TextRange → Root) (r : Result Value Fault)
        → then_do (with_value r declaring_value s done) (dealing root) ≡ ends_as (with_ok r (λ v. Ok (rooted_memory slot s root (ranges_in v)))) done
    dealt-value root (Ok v) = refl
    dealt-value root (Err f) = refl

    -- with an initial value
    module _ (e : Bor DomainExpr) (unread : cell_read (domain_view e.now) ≡ None) where
      abbrev root_of : Placing → List TextRange → Root
      root_of placing rs = valued_root limits e.now placing rs s

      by-value : (root : List TextRange → Root)
          → then_do (evaluated limits in_memory (One (domain_view e.now)) declaring_value s done) (dealing root)
          ≡ ends_as (with_ok (value_of limits in_memory (domain_view e.now) None s) (λ v. Ok (rooted_memory slot s root (ranges_in v)))) done
      by-value root =
          ap (λ o. then_do o (dealing root)) (evaluated-item limits (One (domain_view e.now)) declaring_value s done unread)
          ∙ dealt-value root (value_of limits in_memory (domain_view e.now) None s)

      pub exec-valued : (placing : Placing) → exec limits in_memory (domain_declared slot (ValueNode e) placing) s done
          ≡ ends_as (with_ok (value_of limits in_memory (domain_view e.now) None s) (λ v. Ok (rooted_memory slot s (λ rs. valued_root limits e.now placing rs s) (ranges_in v)))) done
      exec-valued Derived = by-value (root_of Derived)
      exec-valued placing.Root = by-value (root_of placing.Root)
      exec-valued (Mapped m) = by-value (root_of (Mapped m))
      exec-valued BlockCreated = by-value (root_of BlockCreated)
      exec-valued CyclicCreated = by-value (root_of CyclicCreated)

    -- and without one
    pub exec-empty : (rank : Rank) (placing : Placing) → exec limits in_memory (domain_declared slot (Empty rank) placing) s done
        ≡ Done (rooted_memory slot s (λ rs. empty_root limits placing rs s) (empty_domain (dimensions rank))) done
    exec-empty rank placing = refl

  -- DECLARED ARRAYS
  abbrev pub dealing_array : ArrayDeclaration → Run Memory
  dealing_array d after done = Done (with_root d.slot (derived_root limits in_memory (derived_over (over_items d.over)) (array_at d.slot after).ranges s) after) done
