-- The statements of a tree that tokens spell stand where some of the tokens do, in their order, rule by rule of the grammar.
-- Expressions and types have no statements, so nothing is asked of their rules.
use Rattle.std.proofs.Common.{◌≡◌, ℕ, zero, suc, Bool, List, [], ◌∷◌, ◌++◌, Option, Some, None, refl, ap}
use Rattle.std.specs.Prelude.{flat_map}
use Rattle.std.proofs.lemmas.List.{append-nil}
use Rattle.dpl_syntax.specs.declared.place.Place.{Place}
use Rattle.dpl_syntax.specs.declared.token.Token.{Token}
use Rattle.dpl_syntax.specs.declared.token.Keyword.{Keyword}
use Rattle.dpl_syntax.specs.declared.token.Keyword.TheVariants as word_of
use Rattle.dpl_syntax.specs.Text.{start}
use Rattle.dpl_language.specs.Names.{Text}
use Rattle.dpl_language.specs.Tree.{Placed, Block, BlockBody, HeadWord, WhileWord, OnWord, LoopWord, ForallWord, CoforallWord}
use Rattle.dpl_grammar.specs.Rule.{Deep, below, deep}
use Rattle.dpl_grammar.proofs.Values.{OfRule, of_any}
use Rattle.dpl_grammar.proofs.Values.{of_either as made_either, of_parts as made_parts, of_part as made_part, of_last as made_last, of_deeper as made_deeper, of_done as made_done}
use Rattle.dpl_spelling.specs.Nested.{Statement, StatementBelow, PlainBelow, nested, Rule, Late}
use Rattle.dpl_spelling.specs.Expressions.{name}
use Rattle.dpl_spelling.specs.Declarations.{declare_end, declaration, config_declaration}
use Rattle.dpl_spelling.specs.Statements.{element, target_end, assignment_end, call_end, named_statement, output, stmts_of, block, part, body, condition, consequence, alternative, if_else, loop_head, headed, for_loop, parallel_loop, parallel_head, simple_statement, plain_statement, statement}
use Rattle.dpl_spelling.specs.Grammar.{Program, top, tops, program, grammar}
use Rattle.dpl_spelling.specs.Theorem.{Spells}
use Rattle.dpl_places.specs.Statements.{target_place, stmt_places, body_places, stmts_places}
use Rattle.dpl_places.specs.Rising.{IsPart}
use Rattle.dpl_places.proofs.Tokens.{places}
use Rattle.dpl_places.proofs.Taken.{Anything, never_takes, RuleTakes, LateTakes, of_token, of_nowhere, of_either, of_many, of_whole, of_none, of_both, of_part, of_made, of_skip, of_deeper, of_deeper_skip, of_parts, of_means, of_closed, of_lower, of_choice, of_ended, of_dangling}

all-stmts : (ss : List Statement) → stmts_places (stmts_of ss) ≡ flat_map stmt_places ss
all-stmts [] = refl
all-stmts (s ∷ ss) = ap (λ ps. stmt_places s ++ ps) (all-stmts ss)

-- statements one level deeper
record Inner (g : Deep nested) : Type 0 where
  stmt : RuleTakes g (below StatementBelow) stmt_places
  plain : RuleTakes g (below PlainBelow) stmt_places

module _ (g : Deep nested) where
  abbrev At : {T : Type 0} → Rule T → (T → List Place) → Type 0
  At r taken = RuleTakes g r taken

  abbrev LateAt : {T : Type 0} {lets : T → Bool} → Late T lets → (T → List Place) → Type 0
  LateAt a taken = LateTakes g a taken

  -- of each value, wherever its tokens are
  abbrev Makes : {T : Type 0} → Rule T → (T → Type 0) → Type 0
  Makes r Q = OfRule g Anything r Q

  -- ---- statements without a body
  name-at : At name (λ x. x.at ∷ [])
  name-at = of_parts (of_part of_token (λ k. of_none refl))

  declare_end-makes : Makes declare_end (λ make. (config : Option Place) (w : Place × Bool) → stmt_places (make config w) ≡ w.0 ∷ [])
  unfolding declare_end
  declare_end-makes = made_parts (made_part of_any (λ x p. made_part of_any (λ d q. made_last of_any (λ k r config w. refl))))

  declaration-at : At declaration stmt_places
  unfolding declaration
  declaration-at = of_parts (of_part (of_either of_means of_means) (λ w. of_made declare_end-makes (λ make h. of_none (h None w))))

  config_declaration-at : At config_declaration stmt_places
  unfolding config_declaration
  config_declaration-at = of_parts (of_skip (λ c. of_part of_means (λ w. of_made declare_end-makes (λ make h. of_none (h (Some c.at) w)))))

  target_end-makes : Makes target_end (λ make. (x : Placed Text) → target_place (make x) ≡ x.at)
  unfolding target_end
  target_end-makes = made_either element-makes (made_either element-makes (made_done (λ x. refl)))
    where
      element-makes : {shape : _} {from upto : _} → Makes (element shape from upto) (λ make. (x : Placed Text) → target_place (make x) ≡ x.at)
      element-makes = made_parts (made_deeper (λ k p. made_part of_any (λ es q. made_last of_any (λ l r x. refl))))

  abbrev MakesNamed : (Placed Text → Statement) → Type 0
  MakesNamed make = (x : Placed Text) → stmt_places (make x) ≡ x.at ∷ []

  assignment_end-makes : Makes assignment_end MakesNamed
  unfolding assignment_end
  assignment_end-makes = made_parts (made_part target_end-makes (λ make h. made_part of_any (λ s p. made_part of_any (λ i q. made_last of_any (λ k r x. ap (λ p. p ∷ []) (h x))))))

  call_end-makes : Makes call_end MakesNamed
  unfolding call_end
  call_end-makes = made_parts (made_part of_any (λ d p. made_part of_any (λ c q. made_last of_any (λ k r x. refl))))

  named_statement-at : At named_statement stmt_places
  unfolding named_statement
  named_statement-at = of_parts (of_part name-at (λ x. of_made (made_either {Q = MakesNamed} call_end-makes assignment_end-makes) (λ make h. of_none (h x))))

  output-at : At output stmt_places
  unfolding output
  output-at = of_parts (of_part (of_either of_means of_means) (λ w. of_deeper_skip (λ k. of_skip (λ xs. of_skip (λ l. of_skip (λ s. of_none refl))))))

  simple_statement-at : At simple_statement stmt_places
  unfolding simple_statement
  simple_statement-at = of_either declaration-at (of_either (of_parts (of_part of_token (λ k. of_none refl))) (of_either named_statement-at output-at))

  module _ (inner : Inner g) where
    -- ---- blocks and bodies
    block-at : At (block Block) stmt_places
    unfolding block
    block-at = of_parts (of_deeper (λ k. of_part (of_many inner.stmt) (λ ss. of_skip (λ l. of_none (ap (λ ps. k.at ∷ ps) (all-stmts ss))))))

    block_body-at : At (block BlockBody) body_places
    unfolding block
    block_body-at = of_parts (of_deeper_skip (λ k. of_part (of_many inner.stmt) (λ ss. of_skip (λ l. of_none (all-stmts ss)))))

    part-at : LateAt part stmt_places
    unfolding part
    part-at = of_choice (of_closed block-at) (of_lower PlainBelow stmt_places inner.plain)

    body-at : (word : Keyword) → LateAt (body word) body_places
    unfolding body
    body-at word = of_choice (of_ended (λ k. []) stmt_places of_nowhere part-at (λ k s. refl)) (of_closed block_body-at)

    -- ---- statements with a body
    condition-at : (word : Keyword) → At (condition word) (λ c. c.at ∷ [])
    unfolding condition
    condition-at word = of_parts (of_part of_token (λ k. of_skip (λ e. of_none refl)))

    consequence-at : LateAt consequence (λ c. c.condition.at ∷ body_places c.body)
    unfolding consequence
    consequence-at = of_ended (λ c. c.at ∷ []) body_places (condition-at word_of.If) (body-at word_of.Then) (λ c b. refl)

    alternative-at : LateAt alternative (λ o. stmt_places o.stmt)
    unfolding alternative
    alternative-at = of_ended (λ k. []) stmt_places of_nowhere part-at (λ k s. refl)

    if_else-at : LateAt if_else stmt_places
    unfolding if_else
    if_else-at = of_dangling (λ c. c.condition.at ∷ body_places c.body) (λ o. stmt_places o.stmt) consequence-at alternative-at (λ c. ap (λ ps. c.condition.at ∷ ps) (append-nil (body_places c.body))) (λ c o. refl)

    headed-at : (wanted : Keyword) (word : HeadWord) → LateAt (headed wanted word) stmt_places
    unfolding headed
    headed-at wanted word = of_ended (λ c. c.at ∷ []) body_places (condition-at wanted) (body-at word_of.Do) (λ c b. refl)

    -- ---- loops
    loop_head-at : (word : Keyword) → At (loop_head word) (λ h. h.at ∷ [])
    unfolding loop_head
    loop_head-at word = of_parts (of_part of_token (λ k. of_skip (λ xs. of_skip (λ l. of_skip (λ i. of_none refl)))))

    for_loop-at : LateAt for_loop stmt_places
    unfolding for_loop
    for_loop-at = of_ended (λ h. h.at ∷ []) body_places (loop_head-at word_of.For) (body-at word_of.Do) (λ h b. refl)

    parallel_head-at : (word : Keyword) → At (parallel_head word) (λ h. h.loop.at ∷ [])
    unfolding parallel_head
    parallel_head-at word = of_parts (of_part (loop_head-at word) (λ h. of_skip (λ w. of_none refl)))

    parallel_loop-at : (wanted : Keyword) (word : LoopWord) → LateAt (parallel_loop wanted word) stmt_places
    unfolding parallel_loop
    parallel_loop-at wanted word = of_ended (λ h. h.loop.at ∷ []) body_places (parallel_head-at wanted) (body-at word_of.Do) (λ h b. refl)

    -- ---- all statements
    plain_statement-at : LateAt plain_statement stmt_places
    unfolding plain_statement
    plain_statement-at =
        of_choice (of_closed simple_statement-at) (of_choice if_else-at (of_choice (headed-at word_of.While WhileWord)
        (of_choice for_loop-at (of_choice (parallel_loop-at word_of.Forall ForallWord) (of_choice (parallel_loop-at word_of.Coforall CoforallWord) (headed-at word_of.On OnWord))))))

    statement-at : LateAt statement stmt_places
    unfolding statement
    statement-at = of_choice (of_closed block-at) plain_statement-at

-- ---- by the number of levels
inner-at : (d : ℕ) → Inner (deep grammar d)
unfolding grammar
inner-at zero = record { stmt = record { takes = never_takes stmt_places }; plain = record { takes = never_takes stmt_places } }
inner-at (suc d) =
    record { stmt = record { takes = (statement-at (deep grammar d) (inner-at d)).takes }; plain = record { takes = (plain_statement-at (deep grammar d) (inner-at d)).takes } }

module _ (d : ℕ) where
  top-at : At (deep grammar d) top stmt_places
  unfolding top
  top-at = of_either (of_whole (statement-at (deep grammar d) (inner-at d))) (config_declaration-at (deep grammar d))

  -- a program's statements don't depend on where it ends
  abbrev without_end : (Place → Program) → List Place
  without_end make = stmts_places (make start).stmts

  tops-at : At (deep grammar d) tops without_end
  unfolding tops
  tops-at = of_parts (of_skip (λ us. of_part (of_many top-at) (λ ss. of_none (all-stmts ss))))

  tops-makes : Makes (deep grammar d) tops (λ make. (at : Place) → stmts_places (make at).stmts ≡ without_end make)
  unfolding tops
  tops-makes = made_parts (made_part of_any (λ us p. made_last of_any (λ ss q at. refl)))

  program-at : At (deep grammar d) program (λ t. stmts_places t.stmts)
  unfolding program
  program-at = of_parts (of_both tops-at tops-makes (λ make h. of_skip (λ k. of_none (h k.at))))

pub Spells-part : (d : ℕ) (ks : List Token) (t : Program) → Spells d ks t → IsPart (stmts_places t.stmts) (places ks)
Spells-part d ks t s = (program-at d).takes.holds [] ks t s refl
