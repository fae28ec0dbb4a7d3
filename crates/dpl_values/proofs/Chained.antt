-- Chains, slices and posts: the value of one by that of what came so far, and the reductions in it.
use Rattle.std.proofs.Common.{arith, ◌≡◌, ◌<◌, ℕ, zero, suc, Bor, List, [], ◌∷◌, get_or, length, Option, None, Result, Ok, Err, refl, sym, subst, ap, ◌∙◌}
use Rattle.dpl_syntax.specs.declared.place.Place.{Place}
use Rattle.dpl_language.specs.Tree.{Infix, ExprTree, Postfixed, Links, NoLinks, Link, PostTree, Posts, NoPosts, Post}
use Rattle.dpl_language.specs.Values.{Value, Index, Fault}
use Rattle.dpl_language.specs.Outcome.{with_ok}
use Rattle.dpl_language.specs.Environment.{Limits}
use Rattle.dpl_language.specs.Phrases.{base_of}
use Rattle.dpl_language.specs.Expressions.{value_of, chained, behind}
use Rattle.dpl_lowered.specs.Shapes.{two, grouped, stacked_on}
use Rattle.dpl_memory.specs.Memory.{Variable, Memory, in_memory}
use Rattle.dpl_nodes.specs.declared.tree.IntLink.{IntLink}
use Rattle.dpl_nodes.specs.declared.tree.IntExpr.{IntExpr, Chain as ChainNode, Row_of-IntLink, end_of-IntLink, more_of-IntLink, items-the_row-IntLink, items_hidden-the_row-IntLink-1}
use Rattle.dpl_nodes.specs.declared.tree.TruthLink.{TruthLink}
use Rattle.dpl_nodes.specs.declared.tree.BoolExpr.{BoolExpr, Chain as TruthChain, Row_of-TruthLink, end_of-TruthLink, more_of-TruthLink, items-the_row-TruthLink, items_hidden-the_row-TruthLink-0}
use Rattle.dpl_nodes.specs.declared.tree.RangeCut.{RangeCut}
use Rattle.dpl_nodes.specs.declared.tree.RangeExpr.{RangeExpr, Slice as SliceNode, Row_of-RangeCut, end_of-RangeCut, more_of-RangeCut, items-the_row-RangeCut, items_hidden-the_row-RangeCut-3}
use Rattle.dpl_nodes.specs.declared.tree.DomainPost.{DomainPost}
use Rattle.dpl_nodes.specs.declared.tree.DomainExpr.{DomainExpr, Posts as PostsNode, Row_of-DomainPost, end_of-DomainPost, more_of-DomainPost, items-the_row-DomainPost, items_hidden-the_row-DomainPost-0}
use Rattle.dpl_nodes.specs.declared.tree.PromotedIntLink.{PromotedIntLink}
use Rattle.dpl_nodes.specs.declared.tree.PromotedInt.{PromotedInt, Chain as IntsChain, Row_of-PromotedIntLink, end_of-PromotedIntLink, more_of-PromotedIntLink, items-the_row-PromotedIntLink, items_hidden-the_row-PromotedIntLink-2}
use Rattle.dpl_nodes.specs.declared.tree.PromotedTruthLink.{PromotedTruthLink}
use Rattle.dpl_nodes.specs.declared.tree.PromotedTruth.{PromotedTruth, Chain as TruthsChain, Row_of-PromotedTruthLink, end_of-PromotedTruthLink, more_of-PromotedTruthLink, items-the_row-PromotedTruthLink, items_hidden-the_row-PromotedTruthLink-1}
use Rattle.dpl_nodes.specs.declared.tree.DomainExpr.TheBlock.{hidden-the_row-IntLink-1, hidden-the_row-RangeCut-3, hidden-the_row-DomainPost-0, hidden-the_row-PromotedIntLink-2}
use Rattle.dpl_nodes.specs.declared.tree.BoolExpr.TheBlock.{hidden-the_row-TruthLink-0, hidden-the_row-PromotedTruthLink-1}
use Rattle.dpl_nodes.specs.Chains.{IsSoFar, IsPostedSoFar}
use Rattle.dpl_nodes.proofs.Chains.{so_far-next, posted-next}
use Rattle.dpl_frame.specs.declared.fault.Turn.{Turn}
use Rattle.dpl_frame.specs.Faults.{Halt, Faulted, Refused, OutOfMemory, Tells}
use Rattle.dpl_values.specs.Reducing.{or_slot, first_of_ints, first_of_truths, first_in_ints, first_in_truths, first_of_int_links, first_of_truth_links}
use Rattle.dpl_values.specs.Reductions.{EachInInt, EachInLinks, EachInTruth, EachInTruthLinks, EachInRange, EachInCuts, EachInDomain, EachInPost, EachInPosts, EachInInts, EachInIntsLinks, EachInTruths, EachInTruthsLinks}
use Rattle.dpl_values.specs.Reductions.{EachInList, EachInChain, EachInTruthChain, EachInSlices, EachInPosted, EachInIntsChain, EachInTruthsChain}

-- ---- VALUES
module _ (limits : Limits) (at : Option Index) (s : Memory) where
  abbrev value : ExprTree Variable → Result Value Fault
  value e = value_of limits in_memory e at s

  -- a fault of what came so far is the chain's
  by-fault : (ls : Links Variable) (a : ExprTree Variable) (f : Fault) → value a ≡ Err f → value (grouped a ls) ≡ Err f
  by-fault NoLinks a f h = h
  by-fault (Link place op e rest) a f h = by-fault rest (two a place op e) f (ap (λ r. with_ok r (chained limits in_memory (Link place op e NoLinks) at s)) h)

  module _ {A : Type 0} (make : A → Value) (may more : Type 0) (wider : may → more) (t : Turn) (h : Halt) where
    pub chain-ends : (a : ExprTree Variable) (ls : Links Variable) → Tells {A = A} may make t (Err h) (value a) → Tells {A = A} more make t (Err h) (value (grouped a ls))
    chain-ends a ls tells = by h tells
      where
        by : (h : Halt) → Tells {A = A} may make t (Err h) (value a) → Tells {A = A} more make t (Err h) (value (grouped a ls))
        by (Faulted f) tells = by-fault ls a _ tells
        by Refused tells = wider tells
        by OutOfMemory tells = tt

    -- an operand behind which nothing comes ends the chain
    pub link-ends : (whole : ExprTree Variable) (place : Place) (op : Infix) (b : ExprTree Variable) (left rest : Links Variable) (n : A)
        → left ≡ Link place op b rest → IsSoFar whole left (λ a. value a ≡ Ok (make n))
        → Tells {A = A} may make t (Err h) (chained limits in_memory (Link place op b NoLinks) at s (make n)) → Tells {A = A} more make t (Err h) (value whole)
    link-ends whole place op b left rest n is so tells =
        let step = chained limits in_memory (Link place op b NoLinks) at s in
        let next = so_far-next whole place op b left rest (λ a. value a ≡ Ok (make n)) (λ a. value a ≡ step (make n)) is (λ a h. ap (λ (v : Result Value Fault). with_ok v step) h) so in
        subst (λ (e : ExprTree Variable). Tells {A = A} more make t (Err h) (value e)) next.same
        (chain-ends next.tree rest (subst (λ (v : Result Value Fault). Tells {A = A} may make t (Err h) v) (sym next.holds) tells))

-- the same of posts
module _ (limits : Limits) (s : Memory) where
  abbrev once : ExprTree Variable → Result Value Fault
  once e = value_of limits in_memory e None s

  by-fault_behind : (ps : Posts Variable) (a : ExprTree Variable) (f : Fault) → once a ≡ Err f → once (stacked_on a ps) ≡ Err f
  by-fault_behind NoPosts a f h = h
  by-fault_behind (Post p rest) a f h = by-fault_behind rest (Postfixed a (Post p NoPosts)) f (ap (λ r. with_ok r (behind limits in_memory (Post p NoPosts) (base_of a) s)) h)

  module _ {A : Type 0} (make : A → Value) (may more : Type 0) (wider : may → more) (t : Turn) (h : Halt) where
    pub posts-end : (a : ExprTree Variable) (ps : Posts Variable) → Tells {A = A} may make t (Err h) (once a) → Tells {A = A} more make t (Err h) (once (stacked_on a ps))
    posts-end a ps tells = by h tells
      where
        by : (h : Halt) → Tells {A = A} may make t (Err h) (once a) → Tells {A = A} more make t (Err h) (once (stacked_on a ps))
        by (Faulted f) tells = by-fault_behind ps a _ tells
        by Refused tells = wider tells
        by OutOfMemory tells = tt

    pub post-ends : (whole : ExprTree Variable) (p : PostTree Variable) (left rest : Posts Variable) (n : A) (made : Result Value Fault)
        → left ≡ Post p rest → ((a : ExprTree Variable) → once a ≡ Ok (make n) → once (Postfixed a (Post p NoPosts)) ≡ made)
        → IsPostedSoFar whole left (λ a. once a ≡ Ok (make n)) → Tells {A = A} may make t (Err h) made → Tells {A = A} more make t (Err h) (once whole)
    post-ends whole p left rest n made is step so tells =
        let next = posted-next whole p left rest (λ a. once a ≡ Ok (make n)) (λ a. once a ≡ made) is step so in
        subst (λ (e : ExprTree Variable). Tells {A = A} more make t (Err h) (once e)) next.same
        (posts-end next.tree rest (subst (λ (v : Result Value Fault). Tells {A = A} may make t (Err h) v) (sym next.holds) tells))

-- ---- REDUCTIONS
-- those in one entry of a list are among the list's
pub each-at : {A : Type 0} (each : A → (ℕ → Type 0) → Type 0) (xs : List A) (k : ℕ) (x : A) → k < length xs → x ≡ get_or xs k x
    → (Holds : ℕ → Type 0) → EachInList each xs Holds → each x Holds
each-at each [] k x within is Holds all = absurd (omega (arith, within))
each-at each (y ∷ ys) zero x within is Holds all = subst (λ x. each x Holds) (sym is) all.0
each-at each (y ∷ ys) (suc k) x within is Holds all = each-at each ys k x (omega (arith, within)) is Holds all.1

each_row : {m : _} (row : Row_of-IntLink m) (Holds : ℕ → Type 0) → EachInLinks row Holds ≡ EachInList (λ (l : IntLink). EachInInt l.right.now) (items-the_row-IntLink m row) Holds
each_row end_of-IntLink Holds = refl
each_row (more_of-IntLink op p e row) Holds = ap (λ (T : Type 0). EachInInt e Holds × T) (each_row row Holds)

pub each-chain : (first : Bor IntExpr) (links : Bor (List IntLink)) (Holds : ℕ → Type 0) → EachInInt (ChainNode first links) Holds ≡ EachInChain first.now links.now Holds
each-chain first links Holds =
    ap (λ (T : Type 0). EachInInt first.now Holds × T)
    (each_row (hidden-the_row-IntLink-1 links.now) Holds ∙ ap (λ (ls : List IntLink). EachInList (λ (l : IntLink). EachInInt l.right.now) ls Holds) (items_hidden-the_row-IntLink-1 links.now))

each_truth_row : {m : _} (row : Row_of-TruthLink m) (Holds : ℕ → Type 0)
    → EachInTruthLinks row Holds ≡ EachInList (λ (l : TruthLink). EachInTruth l.right.now) (items-the_row-TruthLink m row) Holds
each_truth_row end_of-TruthLink Holds = refl
each_truth_row (more_of-TruthLink op p e row) Holds = ap (λ (T : Type 0). EachInTruth e Holds × T) (each_truth_row row Holds)

pub each-truth_chain : (first : Bor BoolExpr) (links : Bor (List TruthLink)) (Holds : ℕ → Type 0) → EachInTruth (TruthChain first links) Holds ≡ EachInTruthChain first.now links.now Holds
each-truth_chain first links Holds =
    ap (λ (T : Type 0). EachInTruth first.now Holds × T)
    (each_truth_row (hidden-the_row-TruthLink-0 links.now) Holds
    ∙ ap (λ (ls : List TruthLink). EachInList (λ (l : TruthLink). EachInTruth l.right.now) ls Holds) (items_hidden-the_row-TruthLink-0 links.now))

each_cut : {m : _} (row : Row_of-RangeCut m) (Holds : ℕ → Type 0) → EachInCuts row Holds ≡ EachInList (λ (c : RangeCut). EachInRange c.by.now) (items-the_row-RangeCut m row) Holds
each_cut end_of-RangeCut Holds = refl
each_cut (more_of-RangeCut p cut row) Holds = ap (λ (T : Type 0). EachInRange cut Holds × T) (each_cut row Holds)

pub each-slice : (r cut : Bor RangeExpr) (cuts : Bor (List RangeCut)) (Holds : ℕ → Type 0) → EachInRange (SliceNode r cut cuts) Holds ≡ EachInSlices r.now cut.now cuts.now Holds
each-slice r cut cuts Holds =
    ap (λ (T : Type 0). EachInRange r.now Holds × EachInRange cut.now Holds × T)
    (each_cut (hidden-the_row-RangeCut-3 cuts.now) Holds ∙ ap (λ (cs : List RangeCut). EachInList (λ (c : RangeCut). EachInRange c.by.now) cs Holds) (items_hidden-the_row-RangeCut-3 cuts.now))

each_post : {m : _} (row : Row_of-DomainPost m) (Holds : ℕ → Type 0) → EachInPosts row Holds ≡ EachInList EachInPost (items-the_row-DomainPost m row) Holds
each_post end_of-DomainPost Holds = refl
each_post (more_of-DomainPost post row) Holds = ap (λ (T : Type 0). EachInPost post Holds × T) (each_post row Holds)

pub each-posted : (d : Bor DomainExpr) (posts : Bor (List DomainPost)) (Holds : ℕ → Type 0) → EachInDomain (PostsNode d posts) Holds ≡ EachInPosted d.now posts.now Holds
each-posted d posts Holds =
    ap (λ (T : Type 0). EachInDomain d.now Holds × T)
    (each_post (hidden-the_row-DomainPost-0 posts.now) Holds ∙ ap (λ (ps : List DomainPost). EachInList EachInPost ps Holds) (items_hidden-the_row-DomainPost-0 posts.now))

each_ints_row : {m : _} (row : Row_of-PromotedIntLink m) (Holds : ℕ → Type 0)
    → EachInIntsLinks row Holds ≡ EachInList (λ (l : PromotedIntLink). EachInInts l.right.now) (items-the_row-PromotedIntLink m row) Holds
each_ints_row end_of-PromotedIntLink Holds = refl
each_ints_row (more_of-PromotedIntLink op p e row) Holds = ap (λ (T : Type 0). EachInInts e Holds × T) (each_ints_row row Holds)

pub each-ints_chain : (first : Bor PromotedInt) (links : Bor (List PromotedIntLink)) (Holds : ℕ → Type 0) → EachInInts (IntsChain first links) Holds ≡ EachInIntsChain first.now links.now Holds
each-ints_chain first links Holds =
    ap (λ (T : Type 0). EachInInts first.now Holds × T)
    (each_ints_row (hidden-the_row-PromotedIntLink-2 links.now) Holds
    ∙ ap (λ (ls : List PromotedIntLink). EachInList (λ (l : PromotedIntLink). EachInInts l.right.now) ls Holds) (items_hidden-the_row-PromotedIntLink-2 links.now))

each_truths_row : {m : _} (row : Row_of-PromotedTruthLink m) (Holds : ℕ → Type 0)
    → EachInTruthsLinks row Holds ≡ EachInList (λ (l : PromotedTruthLink). EachInTruths l.right.now) (items-the_row-PromotedTruthLink m row) Holds
each_truths_row end_of-PromotedTruthLink Holds = refl
each_truths_row (more_of-PromotedTruthLink op p e row) Holds = ap (λ (T : Type 0). EachInTruths e Holds × T) (each_truths_row row Holds)

pub each-truths_chain : (first : Bor PromotedTruth) (links : Bor (List PromotedTruthLink)) (Holds : ℕ → Type 0)
    → EachInTruths (TruthsChain first links) Holds ≡ EachInTruthsChain first.now links.now Holds
each-truths_chain first links Holds =
    ap (λ (T : Type 0). EachInTruths first.now Holds × T)
    (each_truths_row (hidden-the_row-PromotedTruthLink-1 links.now) Holds
    ∙ ap (λ (ls : List PromotedTruthLink). EachInList (λ (l : PromotedTruthLink). EachInTruths l.right.now) ls Holds) (items_hidden-the_row-PromotedTruthLink-1 links.now))

-- ---- FIRST ARRAYS
-- that of a chain, by the list of its links
first_row : {m : _} (row : Row_of-PromotedIntLink m) → first_in_ints row ≡ first_of_int_links (items-the_row-PromotedIntLink m row)
first_row end_of-PromotedIntLink = refl
first_row (more_of-PromotedIntLink op p e row) = ap (or_slot (first_of_ints e)) (first_row row)

pub first-chain : (first : Bor PromotedInt) (links : Bor (List PromotedIntLink)) → first_of_ints (IntsChain first links) ≡ or_slot (first_of_ints first.now) (first_of_int_links links.now)
first-chain first links =
    ap (or_slot (first_of_ints first.now)) (first_row (hidden-the_row-PromotedIntLink-2 links.now) ∙ ap first_of_int_links (items_hidden-the_row-PromotedIntLink-2 links.now))

first_truths_row : {m : _} (row : Row_of-PromotedTruthLink m) → first_in_truths row ≡ first_of_truth_links (items-the_row-PromotedTruthLink m row)
first_truths_row end_of-PromotedTruthLink = refl
first_truths_row (more_of-PromotedTruthLink op p e row) = ap (or_slot (first_of_truths e)) (first_truths_row row)

pub first-truths_chain : (first : Bor PromotedTruth) (links : Bor (List PromotedTruthLink))
    → first_of_truths (TruthsChain first links) ≡ or_slot (first_of_truths first.now) (first_of_truth_links links.now)
first-truths_chain first links =
    ap (or_slot (first_of_truths first.now)) (first_truths_row (hidden-the_row-PromotedTruthLink-1 links.now) ∙ ap first_of_truth_links (items_hidden-the_row-PromotedTruthLink-1 links.now))
