-- An environment seen through other names: each name of the one stands for a name of the other.
-- A tree means there what it means with its names replaced.
use Rattle.std.proofs.Common.{Option, ◌≡◌, [], refl, sym, ap, ◌∙◌, subst, None}
use Rattle.dpl_syntax.specs.declared.place.Place.{Place}
use Rattle.dpl_language.specs.Tree.{ItemTree, Items, Stmts}
use Rattle.dpl_language.specs.Values.{Index, index_of, ranges_in, array_domain, is_domain}
use Rattle.dpl_language.specs.Outcome.{Deeds, Outcome, Done, Stop, Waits}
use Rattle.dpl_language.specs.Environment.{Environment, Limits}
use Rattle.dpl_language.specs.Expressions.{item_of, domain_of, whole_item}
use Rattle.dpl_language.specs.Statements.{exec_all}
use Rattle.dpl_agreement.specs.Renamed.{renamed_item, renamed_items, renamed_stmts, renamed_content, renamed_intents}
use Rattle.dpl_agreement.specs.Agreement.{AnswersAlike, Simulates, EndsAlike}
use Rattle.dpl_agreement.proofs.ExpressionsAlike.{item_of-renamed, domain_of-renamed, whole_item-renamed}
use Rattle.dpl_agreement.proofs.FreeNames.{anything, anything-lawful, item_fits, items_fit, stmts_fit}
use Rattle.dpl_agreement.proofs.Agreement.{exec_all-alike}
use Rattle.dpl_agreement.proofs.AgreementWithItself.{answers_itself}

abbrev pub through : {M N S : Type 0} → (N → M) → Environment M S → Environment N S
through f env = record {
  get = λ x s. env.get (f x) s;
  update = λ x op v s. env.update (f x) op v s;
  element = λ x t s. env.element (f x) t s;
  put_element = λ x t v s. env.put_element (f x) t v s;
  declare = λ x c s. env.declare (f x) (renamed_content f c) s;
  root = λ x s. env.root (f x) s;
  deal = λ x root s. env.deal (f x) root s;
  given = λ x s. env.given (f x) s;
  enter = env.enter;
  leave = env.leave;
  intend = λ is s. env.intend (renamed_intents f is) s;
  note = env.note;
  has_arrays = λ x s. env.has_arrays (f x) s;
  redomain = λ x rs s. env.redomain (f x) rs s;
  here = env.here;
  move = env.move;
  call = λ x op s. env.call (f x) op s;
  cells = λ x s. env.cells (f x) s;
  history = env.history;
  begin = env.begin;
  settle = λ x h s. env.settle (f x) h s;
}

same_ends : {S : Type 0} (a b : Outcome S) → EndsAlike (λ s1 s2. s1 ≡ s2) a b → b ≡ a
same_ends (Done s done) b e = e.2 ∙ ap (λ u. Done u done) (sym e.1)
same_ends (Stop f done) b e = e
same_ends (Waits at c op done) b e = e

module _ {M N S : Type 0} (limits : Limits) (f : N → M) (env : Environment M S) where
  through_simulates : Simulates limits f anything env (through f env) (λ g s1 s2. s1 ≡ s2)
  through_simulates = record {
    lawful = anything-lawful;
    gets = λ x g s1 s2 r a. ap (env.get (f x)) r;
    whole_targets = λ x op g s1 s2 r a. ap (λ s. array_domain (env.get (f x) s)) r;
    domain_targets = λ x op g s1 s2 r a. ap (λ s. is_domain (env.get (f x) s)) r;
    updates = λ x op v g s1 s2 r a h. ap (env.update (f x) op v) r;
    elements_at = λ x t g s1 s2 r a. ap (env.element (f x) t) r;
    elements = λ x items vs g s1 s2 r a e. ap (env.element (f x) (index_of vs)) r;
    puts_at = λ x t v g s1 s2 r a h. ap (env.put_element (f x) t v) r;
    puts = λ x items vs v g s1 s2 r a e h. ap (env.put_element (f x) (index_of vs) v) r;
    declares = λ x c g s1 s2 r a h. ap (env.declare (f x) (renamed_content f c)) r;
    roots = λ x g s1 s2 r a d. ap (env.root (f x)) r;
    deals = λ x root g s1 s2 r a d. ap (env.deal (f x) root) r;
    gives = λ x g s1 s2 r a. ap (env.given (f x)) r;
    suited = λ x item v g s1 s2 r a w e. tt;
    suited_new = λ x item v g s1 s2 r a d e. tt;
    suited_element = λ x item v g s1 s2 r a e. tt;
    suited_once = λ x item v g s1 s2 r a w e. tt;
    suited_turn = λ x item t v g s1 s2 r f w p e. tt;
    suited_initial = λ x over item t v g s1 s2 r f d p e. tt;
    changed = λ x op t old w g s1 s2 r f e h. tt;
    turned = λ x item over g s1 s2 r a e k d lt. tt;
    spanned = λ x from items v g s1 s2 r f d e. tt;
    spanned_array = λ x over k from items v vs g s1 s2 r f e h. tt;
    given_holds = λ x v g s1 s2 r a e. tt;
    enters = λ g s1 s2 r. ap env.enter r;
    leaves = λ g h s1 s2 t1 t2 before out r. ap env.leave r;
    intends = λ is g s1 s2 r a. ap (env.intend (renamed_intents f is)) r;
    ends_forall = λ is g s1 s2 r a. ap (env.intend (renamed_intents f [])) r;
    notes = λ at rs done g s1 s2 r. ap (λ s. env.note at rs s done) r;
    has = λ x op g s1 s2 r a w. ap (env.has_arrays (f x)) r;
    redomains = λ x op v g s1 s2 r a w h. ap (env.redomain (f x) (ranges_in v)) r;
    heres = λ g s1 s2 r. ap env.here r;
    moves = λ k g s1 s2 r m. ap (env.move k) r;
    calls = λ x op g s1 s2 r a. subst (λ s. AnswersAlike (λ s1 s2. s1 ≡ s2) (env.call (f x) op s1) (env.call (f x) op s)) r (answers_itself (env.call (f x) op s1));
    cells = λ x g s1 s2 r c. ap (env.cells (f x)) r;
    histories = λ x g s1 s2 r c. ap env.history r;
    begins = λ x rs g s1 s2 r c. ap (env.begin rs) r;
    settles = λ x h g s1 s2 r c. ap (env.settle (f x) h) r;
  }

  pub item_of-through_at : (item : ItemTree N) (t : Option Index) (s : S) → item_of limits (through f env) item t s ≡ item_of limits env (renamed_item f item) t s
  item_of-through_at item t s =
      sym (item_of-renamed limits f anything env (through f env) (λ g s1 s2. s1 ≡ s2) through_simulates item t tt s s refl (item_fits item t))

  pub item_of-through : (item : ItemTree N) (s : S) → item_of limits (through f env) item None s ≡ item_of limits env (renamed_item f item) None s
  item_of-through item s = item_of-through_at item None s

  pub whole_item-through : (item : ItemTree N) (s : S) → whole_item limits (through f env) item s ≡ whole_item limits env (renamed_item f item) s
  whole_item-through item s =
      sym (whole_item-renamed limits f anything env (through f env) (λ g s1 s2. s1 ≡ s2) through_simulates item None tt s s refl (item_fits item None))

  pub domain_of-through : (from : Place) (items : Items N) (s : S) → domain_of limits (through f env) from items s ≡ domain_of limits env from (renamed_items f items) s
  domain_of-through from items s =
      sym (domain_of-renamed limits f anything env (through f env) (λ g s1 s2. s1 ≡ s2) through_simulates from items tt s s refl (items_fit items))

  pub exec_all-through : (ts : Stmts N) (s : S) (done : Deeds) → exec_all limits (through f env) ts s done ≡ exec_all limits env (renamed_stmts f ts) s done
  exec_all-through ts s done =
      same_ends (exec_all limits env (renamed_stmts f ts) s done) (exec_all limits (through f env) ts s done)
      (exec_all-alike limits f anything env (through f env) (λ g s1 s2. s1 ≡ s2) through_simulates ts tt (stmts_fit ts) s s done refl)
