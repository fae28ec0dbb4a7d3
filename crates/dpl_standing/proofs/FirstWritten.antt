-- What statements write first doesn't depend on what stands for their names, nor on lowering.
-- So it is one array in the tree that is spelled, in the tree with resolved names and in the lowered one that runs.
use Rattle.std.proofs.Common.{◌≡◌, Option, Some, None, refl, ap, ◌∙◌}
use Rattle.std.specs.Option.{option_or}
use Rattle.std.specs.Prelude.{option_map}
use Rattle.dpl_language.specs.Tree.{TargetTree, Whole, Element, StmtTree, Assigned, Block, If, Headed, Loop, Body, WordBody, BlockBody, Stmts, NoStmts, Then, Else, NoElse, ElseDo}
use Rattle.dpl_agreement.specs.Renamed.{renamed_target, renamed_stmt, renamed_body, renamed_stmts, renamed_else}
use Rattle.dpl_lowered.specs.Known.{Known}
use Rattle.dpl_lowered.specs.LoweredStatements.{lowered_target, lowered_stmt, lowered_body, lowered_stmts, lowered_else}
use Rattle.dpl_standing.specs.Written.{target_written, first_written, first_in_body, first_among, first_in_else}

either : {M : Type 0} {a b c d : Option M} → a ≡ b → c ≡ d → option_or a c ≡ option_or b d
either {M} {a} {b} {c} {d} p q = ap (λ x. option_or x c) p ∙ ap (λ x. option_or b x) q

either_none : {M : Type 0} (a : Option M) → option_or a None ≡ a
either_none None = refl
either_none (Some x) = refl

-- ---- other names
module _ {M N T : Type 0} (f : M → N) (told : N → T) where
  target-renamed : (t : TargetTree M) → target_written told (renamed_target f t) ≡ target_written (λ x. told (f x)) t
  target-renamed (Whole x) = refl
  target-renamed (Element x shape from es upto) = refl

  mutual
    pub written-renamed : (t : StmtTree M) → first_written told (renamed_stmt f t) ≡ first_written (λ x. told (f x)) t
    written-renamed (Assigned target sign item semicolon) = target-renamed target
    written-renamed (Block from ts upto) = among-renamed ts
    written-renamed (If at e first second) = either (body-renamed first) (else-renamed second)
    written-renamed (Headed word at e body) = body-renamed body
    written-renamed (Loop word at xs within item intents body) = body-renamed body
    written-renamed _ = refl

    pub body-renamed : (t : Body M) → first_in_body told (renamed_body f t) ≡ first_in_body (λ x. told (f x)) t
    body-renamed (WordBody at t) = written-renamed t
    body-renamed (BlockBody from ts upto) = among-renamed ts

    pub among-renamed : (ts : Stmts M) → first_among told (renamed_stmts f ts) ≡ first_among (λ x. told (f x)) ts
    among-renamed NoStmts = refl
    among-renamed (Then t rest) = either (written-renamed t) (among-renamed rest)

    pub else-renamed : (t : Else M) → first_in_else told (renamed_else f t) ≡ first_in_else (λ x. told (f x)) t
    else-renamed NoElse = refl
    else-renamed (ElseDo at t) = written-renamed t

-- ---- lowering
module _ {N T : Type 0} (known : N → Known) (told : N → T) where
  target-lowered : (t : TargetTree N) → target_written told (lowered_target known t) ≡ target_written told t
  target-lowered (Whole x) = refl
  target-lowered (Element x shape from es upto) = refl

  mutual
    pub written-lowered : (t : StmtTree N) → first_written told (lowered_stmt known t) ≡ first_written told t
    written-lowered (Assigned target sign item semicolon) = target-lowered target
    written-lowered (Block from ts upto) = among-lowered ts
    written-lowered (If at e first second) = either (body-lowered first) (else-lowered second)
    written-lowered (Headed word at e body) = body-lowered body
    written-lowered (Loop word at xs within item intents body) = body-lowered body
    written-lowered _ = refl

    pub body-lowered : (t : Body N) → first_in_body told (lowered_body known t) ≡ first_in_body told t
    body-lowered (WordBody at t) = either_none (first_written told (lowered_stmt known t)) ∙ written-lowered t
    body-lowered (BlockBody from ts upto) = among-lowered ts

    pub among-lowered : (ts : Stmts N) → first_among told (lowered_stmts known ts) ≡ first_among told ts
    among-lowered NoStmts = refl
    among-lowered (Then t rest) = either (written-lowered t) (among-lowered rest)

    pub else-lowered : (t : Else N) → first_in_else told (lowered_else known t) ≡ first_in_else told t
    else-lowered NoElse = refl
    else-lowered (ElseDo at t) = written-lowered t

-- ---- what is told of it is what is asked of the name
module _ {N M T : Type 0} (told : N → M) (more : M → T) where
  either-map : (a b : Option M) → option_map more (option_or a b) ≡ option_or (option_map more a) (option_map more b)
  either-map None b = refl
  either-map (Some x) b = refl

  target-told : (t : TargetTree N) → option_map more (target_written told t) ≡ target_written (λ x. more (told x)) t
  target-told (Whole x) = refl
  target-told (Element x shape from es upto) = refl

  mutual
    pub written-told : (t : StmtTree N) → option_map more (first_written told t) ≡ first_written (λ x. more (told x)) t
    written-told (Assigned target sign item semicolon) = target-told target
    written-told (Block from ts upto) = among-told ts
    written-told (If at e first second) = either-map (first_in_body told first) (first_in_else told second) ∙ either (body-told first) (else-told second)
    written-told (Headed word at e body) = body-told body
    written-told (Loop word at xs within item intents body) = body-told body
    written-told _ = refl

    pub body-told : (t : Body N) → option_map more (first_in_body told t) ≡ first_in_body (λ x. more (told x)) t
    body-told (WordBody at t) = written-told t
    body-told (BlockBody from ts upto) = among-told ts

    pub among-told : (ts : Stmts N) → option_map more (first_among told ts) ≡ first_among (λ x. more (told x)) ts
    among-told NoStmts = refl
    among-told (Then t rest) = either-map (first_written told t) (first_among told rest) ∙ either (written-told t) (among-told rest)

    pub else-told : (t : Else N) → option_map more (first_in_else told t) ≡ first_in_else (λ x. more (told x)) t
    else-told NoElse = refl
    else-told (ElseDo at t) = written-told t
