-- An environment agrees with itself, whatever may be done with names where, if each may hold anything.
-- So all laws can be kept at once, and the theorem's premises are met by each tree that fits.
use Rattle.std.proofs.Common.{None, ◌≡◌, [], refl, ap, ◌∙◌, subst}
use Rattle.dpl_language.specs.Tree.{StmtTree}
use Rattle.dpl_language.specs.Values.{index_of, ranges_in, array_domain, is_domain}
use Rattle.dpl_language.specs.Ranges.{indices_in, loop_ranges, loop_value}
use Rattle.dpl_language.specs.Arithmetic.{assigned}
use Rattle.dpl_language.specs.Outcome.{Deeds}
use Rattle.dpl_language.specs.Environment.{Content, Plain, ArrayOf, Answer, Replied, Unanswered, Environment, Limits}
use Rattle.dpl_language.specs.Statements.{exec}
use Rattle.dpl_agreement.specs.Scopes.{Scoping, IsLawful, fits}
use Rattle.dpl_agreement.specs.Agreement.{AnswersAlike, Simulates, EndsAlike}
use Rattle.dpl_agreement.proofs.RenamedSame.{renamed_stmt-same, renamed_content-same, renamed_intents-same}
use Rattle.dpl_agreement.proofs.RunsAlike.{All-every}
use Rattle.dpl_agreement.proofs.Agreement.{exec-alike}

pub answers_itself : {S : Type 0} (a : Answer S) → AnswersAlike (λ s1 s2. s1 ≡ s2) a a
answers_itself (Replied c r s) = (s, refl, refl)
answers_itself (Unanswered c) = refl

module _ {N G S : Type 0} (limits : Limits) (scoping : Scoping N G) (env : Environment N S) where
  pub simulates_itself : IsLawful scoping → ((x : N) (c : Content N) → scoping.holds x c) → Simulates limits (λ x. x) scoping env env (λ g s1 s2. s1 ≡ s2)
  simulates_itself lawful held = record {
    lawful = lawful;
    gets = λ x g s1 s2 r f. ap (env.get x) r;
    whole_targets = λ x op g s1 s2 r f. ap (λ s. array_domain (env.get x s)) r;
    domain_targets = λ x op g s1 s2 r f. ap (λ s. is_domain (env.get x s)) r;
    updates = λ x op v g s1 s2 r f h. ap (env.update x op v) r;
    elements_at = λ x t g s1 s2 r f. ap (env.element x t) r;
    elements = λ x items vs g s1 s2 r f e. ap (env.element x (index_of vs)) r;
    puts_at = λ x t v g s1 s2 r f h. ap (env.put_element x t v) r;
    puts = λ x items vs v g s1 s2 r f e h. ap (env.put_element x (index_of vs) v) r;
    declares = λ x c g s1 s2 r f h. ap (λ c. env.declare x c s1) (renamed_content-same c) ∙ ap (env.declare x c) r;
    roots = λ x g s1 s2 r f d. ap (env.root x) r;
    deals = λ x root g s1 s2 r f d. ap (env.deal x root) r;
    gives = λ x g s1 s2 r f. ap (env.given x) r;
    suited = λ x item v g s1 s2 r f w e. held x (Plain v);
    suited_new = λ x item v g s1 s2 r f d e. held x (Plain v);
    suited_element = λ x item v g s1 s2 r f e. held x (Plain v);
    suited_once = λ x item v g s1 s2 r f w e. held x (Plain v);
    suited_turn = λ x item t v g s1 s2 r f w p e. held x (Plain v);
    suited_initial = λ x over item t v g s1 s2 r f d p e. held x (Plain v);
    changed = λ x op t old w g s1 s2 r f e h. held x (Plain (assigned op None old w));
    turned = λ x item over g s1 s2 r f e. All-every (λ t. scoping.holds x (Plain (loop_value over t))) (λ t. held x (Plain (loop_value over t))) (indices_in (loop_ranges limits.locales over));
    spanned = λ x from items v g s1 s2 r f d e. held x (Plain v);
    spanned_array = λ x over k from items v vs g s1 s2 r f e h. held x (ArrayOf over k (ranges_in v) vs);
    given_holds = λ x v g s1 s2 r f e. held x (Plain v);
    enters = λ g s1 s2 r. ap env.enter r;
    leaves = λ g h s1 s2 t1 t2 before out r. ap env.leave r;
    intends = λ is g s1 s2 r f. ap (λ is. env.intend is s1) (renamed_intents-same is) ∙ ap (env.intend is) r;
    ends_forall = λ is g s1 s2 r f. ap (env.intend []) r;
    notes = λ at rs done g s1 s2 r. ap (λ s. env.note at rs s done) r;
    has = λ x op g s1 s2 r f w. ap (env.has_arrays x) r;
    redomains = λ x op v g s1 s2 r f w h. ap (env.redomain x (ranges_in v)) r;
    heres = λ g s1 s2 r. ap env.here r;
    moves = λ k g s1 s2 r m. ap (env.move k) r;
    calls = λ x op g s1 s2 r f. subst (λ s. AnswersAlike (λ s1 s2. s1 ≡ s2) (env.call x op s1) (env.call x op s)) r (answers_itself (env.call x op s1));
    cells = λ x g s1 s2 r c. ap (env.cells x) r;
    histories = λ x g s1 s2 r c. ap env.history r;
    begins = λ x rs g s1 s2 r c. ap (env.begin rs) r;
    settles = λ x h g s1 s2 r c. ap (env.settle x h) r;
  }

  -- so the theorem's premises are met by every tree that fits
  pub exec-itself : IsLawful scoping → ((x : N) (c : Content N) → scoping.holds x c) → (t : StmtTree N) (g : G) → fits scoping t g → (s : S) (done : Deeds) → EndsAlike (λ s1 s2. s1 ≡ s2) (exec limits env t s done) (exec limits env t s done)
  exec-itself lawful held t g f s done =
      subst (λ u. EndsAlike (λ s1 s2. s1 ≡ s2) (exec limits env u s done) (exec limits env t s done)) (renamed_stmt-same t)
      (exec-alike limits (λ x. x) scoping env env (λ g s1 s2. s1 ≡ s2) (simulates_itself lawful held) t g f s s done refl)
