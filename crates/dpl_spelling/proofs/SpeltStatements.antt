-- Each tree that tokens spell is as specs/Spelt.antt says, rule by rule of the grammar: declarations, statements and programs.
-- Then all rules that may stand one level deeper, by the number of levels.
use Rattle.std.proofs.Common.{◌≡◌, ℕ, zero, suc, Bool, true, false, cond, bytes_eq, List, [], ◌∷◌, Option, Some, None, refl}
use Rattle.dpl_syntax.specs.declared.place.Place.{Place}
use Rattle.dpl_syntax.specs.declared.token.Token.{Token}
use Rattle.dpl_syntax.specs.declared.token.Keyword.{Keyword}
use Rattle.dpl_syntax.specs.declared.token.Keyword.TheVariants as word_of
use Rattle.dpl_syntax.specs.declared.token.Contextual.{Contextual}
use Rattle.dpl_syntax.specs.Tokens.{contextual_text}
use Rattle.dpl_language.specs.Names.{Text}
use Rattle.dpl_language.specs.Tree.{Placed, Op, Block, Number, TruthWord, Named, LocalesWord, LocaleCount, HereWord, Grouped, DomainLiteral, Prefixed, Reduced, Chain, Postfixed, One, RangeItem, StartTree, StartExpr, StartTuple, MapTree, WhileWord, OnWord, ForallWord, CoforallWord, Stmts}
use Rattle.dpl_grammar.specs.Classes.{Class}
use Rattle.dpl_grammar.specs.Each.{Each, IfThere}
use Rattle.dpl_grammar.specs.Rule.{Parts, Deep, Whole, Begun, token, below, means, ◌↓◌, deep}
use Rattle.dpl_grammar.proofs.Values.{Begins, never_holds, OfLate, of_any, of_weaker, of_either, of_many, of_run, of_complete, of_whole, of_part, of_parts, of_closed, of_choice, of_ended, of_dangling, of_done, of_last, of_maybe, of_lower, OfParts}
use Rattle.dpl_grammar.proofs.Values.{of_token as of_any_token}
use Rattle.dpl_spelling.specs.Nested.{Nested, Inside, OneItem, Tuple, Expression, Item, Statement, ItemBelow, ExpressionBelow, NegBelow, NotBelow, RedBelow, StartBelow, InsideBelow, StatementBelow, PlainBelow, nested, Rule, Late}
use Rattle.dpl_spelling.specs.Expressions.{simple_base, base}
use Rattle.dpl_spelling.specs.Declarations.{if_there, after_inside, tuple_end, inside, Bracket, bracket, holding, after_bracket, expression_end, start, Argument, nameless, after_argument, argument_end, item_name, start_name, box_argument, start_argument, block_map, cyclic_map, block_cyclic_map, map, mapped, scalar_kind, sync_type, domain_type, array_type, declared_type, typed, create_word, created, init, initial, Declared, declared, declare_end, declaration, config_declaration}
use Rattle.dpl_spelling.specs.Statements.{element, target_end, assign_by, assign_sign, assignment_end, write_call, read_call, reset_call, cell_call, call_end, named_statement, argument, output, stmts_of, block, part, body, Condition, condition, Conditional, consequence, Otherwise, alternative, if_else, variables, reduce_operator, intent, with_intents, LoopHead, loop_head, headed, for_loop, parallel_loop, ParallelHead, parallel_head, simple_statement, plain_statement, statement}
use Rattle.dpl_spelling.specs.Grammar.{Program, top, tops, program, grammar}
use Rattle.dpl_spelling.specs.Theorem.{Spells}
use Rattle.dpl_language.specs.Spelled.{SaysType}
use Rattle.dpl_spelling.specs.Spelt.{IsInner, AreInner, Products, Sums, Relations, Equalities, Conjunctions, Disjunctions, NameSpelt, ExprSpelt, ItemSpelt, ArgumentNameSpelt, StartSpelt, MapSpelt, MappedSpelt, TypedSpelt, InitialSpelt, ArgumentSpelt, IntentSpelt, WithSpelt, VariablesSpelt, TargetSpelt, SignSpelt, CallSpelt, StmtSpelt, BodySpelt, StmtsSpelt}
use Rattle.dpl_spelling.proofs.Spelt.{TokenSpelt, PlaceSpelt, InsideSpelt, InnerSpelt, NestedSpelt, Is, name_spelt, number_token_spelt, after_comma_spelt, listed_spelt, postfixed_spelt, chain_spelt, items_spelt, exprs_spelt, post_spelt, simple_base_spelt, base_spelt, red_spelt, not_spelt, further_spelt, sum_operator_spelt, relation_operator_spelt, equality_operator_spelt, and_operator_spelt, or_operator_spelt, further_factor_spelt, neg_spelt, sum_spelt, relation_spelt, equality_spelt, conjunction_spelt, expression_from_spelt, expression_spelt, item_spelt}
use Rattle.dpl_spelling.proofs.Spelt.{of_token as of_token_in, of_task_word, of_deeper as of_deeper_in, of_means as of_means_in}

if_there_each : {A : Type 0} (Q : A → Type 0) (z : Option A) → IfThere Q z → Each Q (if_there z)
if_there_each Q None h = tt
if_there_each Q (Some x) h = (h, tt)

module _ (P : Place → Type 0) (W : Type 0) (g : Deep nested) (inner : (n : Nested) → Is P W g (below n) (NestedSpelt P W n)) where
  of_token : {class : Class} → Is P W g (token class) (PlaceSpelt P)
  of_token = of_token_in P W g

  of_deeper : {R T : Type 0} {class : Class} {parts : Parts nested R T} {f : Token → R} {Q : T → Type 0}
      → ((k : Token) → P k.at → OfParts g (TokenSpelt P W) parts (f k) Q) → OfParts g (TokenSpelt P W) (class ↓ parts) f Q
  of_deeper = of_deeper_in P W g

  of_means : {T : Type 0} {class : Class} {x : T} {Q : Place × T → Type 0} → ((k : Token) → P k.at → Q (k.at, x)) → Is P W g (means class x) Q
  of_means = of_means_in P W g

  -- WHERE A MAP STARTS
  after_inside_spelt : (x : Item) → ItemSpelt P W x → Begins (ExprSpelt P W) (InsideSpelt P W) (after_inside x)
  after_inside_spelt (One e) h = h
  after_inside_spelt (RangeItem low at dots high by) h = h

  tuple_end_spelt : Is P W g tuple_end (λ make. (x : Expression) → ExprSpelt P W x → InsideSpelt P W (make x))
  unfolding tuple_end
  tuple_end_spelt =
      of_parts (of_part (after_comma_spelt P W g (expression_spelt P W g inner)) (λ y p.
      of_last (of_maybe (after_comma_spelt P W g (expression_spelt P W g inner))) (λ z q x r. ((r, (p, if_there_each _ z q)), λ none. absurd cc))))

  pub inside_spelt : Is P W g inside (InsideSpelt P W)
  unfolding inside
  inside_spelt = of_complete (ItemSpelt P W) (ExprSpelt P W) (item_spelt P W g inner) after_inside_spelt (of_either tuple_end_spelt (of_done (λ e p. p)))

  abbrev BracketSpelt : Bracket → Type 0
  BracketSpelt b = P b.from × InsideSpelt P W b.holds × P b.upto

  bracket_spelt : Is P W g bracket BracketSpelt
  unfolding bracket
  bracket_spelt = of_parts (of_deeper (λ k p. of_part (inner InsideBelow) (λ x q. of_last of_token (λ l r. (p, q, r)))))

  after_bracket_spelt : (b : Bracket) → BracketSpelt b → Begins (ExprSpelt P W) (StartSpelt P W) (after_bracket b)
  after_bracket_spelt b h = by b.holds h.1
    where
      by : (x : Inside) → InsideSpelt P W x → Begins (ExprSpelt P W) (StartSpelt P W) (holding b.from x b.upto)
      by (OneItem x) k = (h.0, k, h.2)
      by (Tuple xs) k = (h.0, k.0, h.2, k.1)

  expression_end_spelt : Is P W g expression_end (λ make. (e : Expression) → ExprSpelt P W e → StartSpelt P W (make e))
  unfolding expression_end
  expression_end_spelt =
      of_parts (of_part (of_many (post_spelt P W g inner)) (λ ps p.
      of_part (of_run (further_factor_spelt P W g inner)) (λ fs q.
      of_part (of_many (further_spelt P W g inner (sum_operator_spelt P W g inner) (neg_spelt P W g inner base (base_spelt P W g inner)))) (λ ss r.
      of_part (of_many (further_spelt P W g inner (relation_operator_spelt P W g inner) (sum_spelt P W g inner base (base_spelt P W g inner)))) (λ rs s.
      of_part (of_many (further_spelt P W g inner (equality_operator_spelt P W g inner) (relation_spelt P W g inner base (base_spelt P W g inner)))) (λ es t.
      of_part (of_many (further_spelt P W g inner (and_operator_spelt P W g inner) (equality_spelt P W g inner base (base_spelt P W g inner)))) (λ cs u.
      of_last (of_many (further_spelt P W g inner (or_operator_spelt P W g inner) (conjunction_spelt P W g inner base (base_spelt P W g inner)))) (λ ds v e w.
      chain_spelt P W g Disjunctions _ ds (chain_spelt P W g Conjunctions _ cs (chain_spelt P W g Equalities _ es (chain_spelt P W g Relations _ rs
      (chain_spelt P W g Sums _ ss (chain_spelt P W g Products _ fs (postfixed_spelt P W g e ps w p) q) r) s) t) u) v))))))))

  pub start_spelt : Is P W g start (StartSpelt P W)
  unfolding start
  start_spelt =
      of_either (of_complete BracketSpelt (ExprSpelt P W) bracket_spelt after_bracket_spelt expression_end_spelt)
      (of_parts (of_last (expression_from_spelt P W g inner simple_base (simple_base_spelt P W g inner)) (λ e p. p)))

  -- MAPS
  abbrev ArgumentOf : {A : Type 0} → (A → Type 0) → Argument A → Type 0
  ArgumentOf Q a = IfThere (ArgumentNameSpelt P W) a.name × Q a.value

  after_argument_spelt : {A : Type 0} (Q : A → Type 0) (w : Contextual) (o : Option (Placed Text)) (x : A) → IfThere (NameSpelt P W) o → Q x
      → Begins (λ n. P n.0 × Q n.1) (ArgumentOf Q) (after_argument w o x)
  after_argument_spelt Q w None x h q = (tt, q)
  after_argument_spelt {A = A} Q w (Some n) x h q = by (bytes_eq n.name (contextual_text w))
    where
      by : (c : Bool) → Begins {B = Place × A} (λ n. P n.0 × Q n.1) (ArgumentOf Q) (cond c (Begun (n.at, x)) (Whole (nameless x)))
      by true = (h, q)
      by false = (tt, q)

  argument_end_spelt : {A : Type 0} {a : Rule A} {Q : A → Type 0} → Is P W g a Q → Is P W g (argument_end a) (λ make. (n : Place × A) → (P n.0 × Q n.1) → ArgumentOf Q (make n))
  unfolding argument_end
  argument_end_spelt h = of_parts (of_part of_token (λ k p. of_last h (λ x q n r. ((r.0, p), q))))

  expr_name_spelt : (e : Expression) → ExprSpelt P W e → IfThere (NameSpelt P W) (start_name (StartExpr e))
  expr_name_spelt (Number at n) h = tt
  expr_name_spelt (TruthWord at b) h = tt
  expr_name_spelt (Named x) h = h
  expr_name_spelt (LocalesWord at) h = tt
  expr_name_spelt (LocaleCount at) h = tt
  expr_name_spelt (HereWord at) h = tt
  expr_name_spelt (Grouped from x upto) h = tt
  expr_name_spelt (DomainLiteral from xs upto) h = tt
  expr_name_spelt (Prefixed at op e) h = tt
  expr_name_spelt (Reduced at op word e) h = tt
  expr_name_spelt (Chain e rest) h = tt
  expr_name_spelt (Postfixed e posts) h = tt

  item_name_spelt : (x : Item) → ItemSpelt P W x → IfThere (NameSpelt P W) (item_name x)
  item_name_spelt (One e) h = expr_name_spelt e h
  item_name_spelt (RangeItem low at dots high by) h = tt

  start_name_spelt : (x : StartTree Text) → StartSpelt P W x → IfThere (NameSpelt P W) (start_name x)
  start_name_spelt (StartExpr e) h = expr_name_spelt e h
  start_name_spelt (StartTuple from xs upto) h = tt

  box_argument_spelt : Is P W g box_argument (ArgumentOf (ItemSpelt P W))
  unfolding box_argument
  box_argument_spelt =
      of_complete (ItemSpelt P W) (λ n. P n.0 × ItemSpelt P W n.1) (inner ItemBelow)
      (λ x h. after_argument_spelt (ItemSpelt P W) _ (item_name x) x (item_name_spelt x h) h)
      (of_either (argument_end_spelt (inner ItemBelow)) (of_done (λ n p. (tt, p.1))))

  start_argument_spelt : (w : Contextual) → Is P W g (start_argument w) (ArgumentOf (StartSpelt P W))
  unfolding start_argument
  start_argument_spelt w =
      of_complete (StartSpelt P W) (λ n. P n.0 × StartSpelt P W n.1) (inner StartBelow)
      (λ x h. after_argument_spelt (StartSpelt P W) w (start_name x) x (start_name_spelt x h) h)
      (of_either (argument_end_spelt (inner StartBelow)) (of_done (λ n p. (tt, p.1))))

  abbrev MakesMap : (Place → MapTree Text) → Type 0
  MakesMap make = (new : Place) → P new → MapSpelt P W (make new)

  block_map_spelt : Is P W g block_map MakesMap
  unfolding block_map
  block_map_spelt = of_parts (of_part of_token (λ w p. of_deeper (λ k q. of_part box_argument_spelt (λ b r. of_last of_token (λ l s new t. (t, p, q, r.0, r.1, s))))))

  cyclic_map_spelt : Is P W g cyclic_map MakesMap
  unfolding cyclic_map
  cyclic_map_spelt = of_parts (of_part of_token (λ w p. of_deeper (λ k q. of_part (start_argument_spelt _) (λ b r. of_last of_token (λ l s new t. (t, p, q, r.0, r.1, s))))))

  block_cyclic_map_spelt : Is P W g block_cyclic_map MakesMap
  unfolding block_cyclic_map
  block_cyclic_map_spelt =
      of_parts (of_part of_token (λ w p. of_deeper (λ k q. of_part (start_argument_spelt _) (λ b r. of_part of_token (λ c s.
      of_part (start_argument_spelt _) (λ z t. of_last of_token (λ l u new v. (v, p, q, r.0, r.1, s, t.0, t.1, u))))))))

  pub mapped_spelt : Is P W g mapped (MappedSpelt P W)
  unfolding mapped map
  mapped_spelt =
      of_parts (of_part of_token (λ k p. of_last
      (of_parts (of_part of_token (λ n q. of_last (of_either block_map_spelt (of_either cyclic_map_spelt block_cyclic_map_spelt)) (λ make h. h n.at q))))
      (λ m r. (p, r))))

  -- TYPES AND DECLARATIONS
  scalar_kind_spelt : Is P W g scalar_kind (λ s. P s.0)
  scalar_kind_spelt = of_either (of_means (λ k p. p)) (of_means (λ k p. p))

  pub typed_spelt : Is P W g typed (TypedSpelt P W)
  unfolding typed declared_type sync_type domain_type array_type
  typed_spelt =
      of_parts (of_part of_token (λ k p. of_last
      (of_either (of_parts (of_last scalar_kind_spelt (λ s q. q)))
      (of_either (of_parts (of_part (of_task_word P W g refl) (λ k q. of_last scalar_kind_spelt (λ s r. (q.0, r, q.1)))))
      (of_either (of_parts (of_part of_token (λ w q. of_deeper (λ k r. of_part (number_token_spelt P W g) (λ n s. of_part of_token (λ l t. of_last (of_maybe mapped_spelt) (λ m u. (q, r, s, t, u))))))))
      (of_parts (of_deeper (λ k q. of_part (items_spelt P W g inner) (λ xs r. of_part of_token (λ l s. of_last scalar_kind_spelt (λ t u. (q, r, s, u))))))))))
      (λ t q. (p, q))))

  create_word_spelt : Is P W g create_word (λ w. P w.0)
  create_word_spelt = of_either (of_means (λ k p. p)) (of_means (λ k p. p))

  pub initial_spelt : Is P W g initial (InitialSpelt P W)
  unfolding initial init created
  initial_spelt =
      of_parts (of_part of_token (λ k p. of_last
      (of_either (of_parts (of_part (item_spelt P W g inner) (λ x q. of_last (of_maybe mapped_spelt) (λ m r. (q, r)))))
      (of_parts (of_part create_word_spelt (λ w q. of_part of_token (λ d r. of_part of_token (λ m s. of_deeper (λ k t. of_part (items_spelt P W g inner) (λ xs u. of_last of_token (λ l v. (q, r, s, t, u, v))))))))))
      (λ i q. (p, q))))

  abbrev DeclaredSpelt : Declared → Type 0
  DeclaredSpelt d = SaysType d.typed d.initial × IfThere (TypedSpelt P W) d.typed × IfThere (InitialSpelt P W) d.initial

  declared_spelt : Is P W g declared DeclaredSpelt
  unfolding declared
  declared_spelt = of_either (of_parts (of_part typed_spelt (λ t p. of_last (of_maybe initial_spelt) (λ i q. (tt, p, q))))) (of_parts (of_last initial_spelt (λ i p. (tt, tt, p))))

  abbrev MakesDeclaration : (Option Place → Place × Bool → Statement) → Type 0
  MakesDeclaration make = (config : Option Place) (w : Place × Bool) → IfThere P config → P w.0 → StmtSpelt P W (make config w) × (config ≡ None → IsInner (make config w))

  declare_end_spelt : Is P W g declare_end MakesDeclaration
  unfolding declare_end
  declare_end_spelt = of_parts (of_part (name_spelt P W g) (λ x p. of_part declared_spelt (λ d q. of_last of_token (λ k r config w s t. ((q.0, s, t, p, q.1, q.2, r), λ none. none)))))

  declaration_spelt : Is P W g declaration (InnerSpelt P W)
  unfolding declaration
  declaration_spelt = of_parts (of_part (of_either word word) (λ w p. of_last declare_end_spelt (λ make h. ((h None w tt p).0, (h None w tt p).1 refl))))
    where
      word : {class : Class} {b : Bool} → Is P W g (means class b) (λ w. P w.0)
      word = of_means (λ k p. p)

  pub config_declaration_spelt : Is P W g config_declaration (StmtSpelt P W)
  unfolding config_declaration
  config_declaration_spelt = of_parts (of_part of_token (λ c p. of_part (of_means {Q = λ w. P w.0} (λ k q. q)) (λ w q. of_last declare_end_spelt (λ make h. (h (Some c.at) w p q).0))))

  -- STATEMENTS THAT BEGIN WITH A NAME
  element_spelt : {shape : _} {from upto : Class} → Is P W g (element shape from upto) (λ make. (x : Placed Text) → NameSpelt P W x → TargetSpelt P W (make x))
  element_spelt = of_parts (of_deeper (λ k p. of_part (exprs_spelt P W g inner) (λ es q. of_last of_token (λ l r x s. (s, p, q, r)))))

  target_end_spelt : Is P W g target_end (λ make. (x : Placed Text) → NameSpelt P W x → TargetSpelt P W (make x))
  unfolding target_end
  target_end_spelt = of_either element_spelt (of_either element_spelt (of_done (λ x p. p)))

  assign_sign_spelt : Is P W g assign_sign (SignSpelt P W)
  unfolding assign_sign
  assign_sign_spelt =
      of_either by (of_either by (of_either by (of_either by (of_either by (of_either by
      (of_parts (of_part of_token (λ k p. of_last of_token (λ l q. (p, q))))))))))
    where
      by : {class : Class} {op : _} → Is P W g (assign_by class op) (SignSpelt P W)
      by = of_parts (of_last of_token (λ k p. (p, p)))

  cell_call_spelt : Is P W g cell_call (CallSpelt P W)
  unfolding cell_call reset_call
  cell_call_spelt = of_either write (of_either write (of_either write (of_either (of_parts (of_part of_token (λ w p. of_deeper (λ k q. of_last of_token (λ l r. (p, q, r)))))) (of_either read read))))
    where
      write : {class : Class} {word : _} → Is P W g (write_call class word) (CallSpelt P W)
      write = of_parts (of_part of_token (λ w p. of_deeper (λ k q. of_part (inner ExpressionBelow) (λ e r. of_last of_token (λ l s. (p, q, r, s))))))

      read : {class : Class} {word : _} → Is P W g (read_call class word) (CallSpelt P W)
      read = of_parts (of_part of_token (λ w p. of_deeper (λ k q. of_last of_token (λ l r. (p, q, r)))))

  abbrev MakesNamed : (Placed Text → Statement) → Type 0
  MakesNamed make = (x : Placed Text) → NameSpelt P W x → InnerSpelt P W (make x)

  named_statement_spelt : Is P W g named_statement (InnerSpelt P W)
  unfolding named_statement call_end assignment_end
  named_statement_spelt =
      of_parts (of_part (name_spelt P W g) (λ x p. of_last (of_either {Q = MakesNamed}
      (of_parts (of_part of_token (λ d q. of_part cell_call_spelt (λ c r. of_last of_token (λ k s x t. ((t, q, r, s), tt))))))
      (of_parts (of_part target_end_spelt (λ make h. of_part assign_sign_spelt (λ s q. of_part (item_spelt P W g inner) (λ i r. of_last of_token (λ k t x u. ((h x u, q, r, t), tt))))))))
      (λ make h. h x p)))

  -- OUTPUT
  argument_spelt : Is P W g argument (ArgumentSpelt P W)
  unfolding argument
  argument_spelt = of_either (of_parts (of_last of_token (λ k p. p))) (of_parts (of_last (inner ExpressionBelow) (λ e p. p)))

  output_spelt : Is P W g output (InnerSpelt P W)
  unfolding output
  output_spelt =
      of_parts (of_part (of_either {Q = λ w. P w.0} (of_means (λ k p. p)) (of_means (λ k p. p))) (λ w p. of_deeper (λ k q.
      of_part (of_maybe (listed_spelt P W g argument_spelt)) (λ xs r. of_part of_token (λ l s. of_last of_token (λ t u. ((p, q, r, s, u), tt)))))))

  -- BODIES
  inner_spelt : (ss : List Statement) → Each (InnerSpelt P W) ss → StmtsSpelt P W (stmts_of ss)
  inner_spelt [] h = tt
  inner_spelt (s ∷ ss) h = (h.0.0, inner_spelt ss h.1)

  are_inner : (ss : List Statement) → Each (InnerSpelt P W) ss → AreInner (stmts_of ss)
  are_inner [] h = tt
  are_inner (s ∷ ss) h = (h.0.1, are_inner ss h.1)

  block_spelt : {T : Type 0} (make : Place → Stmts Text → Place → T) (Q : T → Type 0) → ((from : Place) (ss : Stmts Text) (upto : Place) → P from → StmtsSpelt P W ss → P upto → AreInner ss → Q (make from ss upto))
      → Is P W g (block make) Q
  unfolding block
  block_spelt make Q h = of_parts (of_deeper (λ k p. of_part (of_many (inner StatementBelow)) (λ ss q. of_last of_token (λ l r. h k.at (stmts_of ss) l.at p (inner_spelt ss q) r (are_inner ss q)))))

  abbrev IsLate : {T : Type 0} {lets : T → Bool} → Late T lets → (T → Type 0) → Type 0
  IsLate a Q = OfLate g (TokenSpelt P W) a Q

  whole_block_spelt : Is P W g (block Block) (InnerSpelt P W)
  whole_block_spelt = block_spelt _ _ (λ from ss upto p q r a. ((p, q, r, a), tt))

  part_spelt : IsLate part (InnerSpelt P W)
  unfolding part
  part_spelt = of_choice {Q = InnerSpelt P W} (of_closed whole_block_spelt) (of_lower PlainBelow (InnerSpelt P W) (inner PlainBelow))

  body_spelt : (word : Keyword) → IsLate (body word) (BodySpelt P W)
  unfolding body
  body_spelt word = of_choice {Q = BodySpelt P W} (of_ended (PlaceSpelt P) (InnerSpelt P W) of_token part_spelt (λ k s p q. (p, q.0, q.1))) (of_closed (block_spelt _ _ (λ from ss upto p q r a. (p, q, r, a))))

  -- STATEMENTS WITH BODIES
  abbrev ConditionSpelt : Condition → Type 0
  ConditionSpelt c = P c.at × ExprSpelt P W c.value

  condition_spelt : (word : Keyword) → Is P W g (condition word) ConditionSpelt
  unfolding condition
  condition_spelt word = of_parts (of_part of_token (λ k p. of_last (expression_spelt P W g inner) (λ e q. (p, q))))

  abbrev TaskConditionSpelt : Condition → Type 0
  TaskConditionSpelt c = P c.at × ExprSpelt P W c.value × W

  task_condition_spelt : Is P W g (condition word_of.On) TaskConditionSpelt
  unfolding condition
  task_condition_spelt = of_parts (of_part (of_task_word P W g refl) (λ k p. of_last (expression_spelt P W g inner) (λ e q. (p.0, q, p.1))))

  abbrev ConditionalSpelt : Conditional → Type 0
  ConditionalSpelt c = ConditionSpelt c.condition × BodySpelt P W c.body

  consequence_spelt : IsLate consequence ConditionalSpelt
  unfolding consequence
  consequence_spelt = of_ended ConditionSpelt (BodySpelt P W) (condition_spelt _) (body_spelt _) (λ c b p q. (p, q))

  abbrev OtherwiseSpelt : Otherwise → Type 0
  OtherwiseSpelt o = P o.at × StmtSpelt P W o.stmt × IsInner o.stmt

  alternative_spelt : IsLate alternative OtherwiseSpelt
  unfolding alternative
  alternative_spelt = of_ended (PlaceSpelt P) (InnerSpelt P W) of_token part_spelt (λ k s p q. (p, q.0, q.1))

  if_else_spelt : IsLate if_else (InnerSpelt P W)
  unfolding if_else
  if_else_spelt =
      of_dangling ConditionalSpelt OtherwiseSpelt consequence_spelt alternative_spelt
      (λ c p. ((p.0.0, p.0.1, p.1, tt), tt)) (λ c o p q. ((p.0.0, p.0.1, p.1, q), tt))

  while_spelt : IsLate (headed word_of.While WhileWord) (InnerSpelt P W)
  unfolding headed
  while_spelt = of_ended ConditionSpelt (BodySpelt P W) (condition_spelt _) (body_spelt _) (λ c b p q. ((p.0, p.1, q, tt), tt))

  on_spelt : IsLate (headed word_of.On OnWord) (InnerSpelt P W)
  unfolding headed
  on_spelt = of_ended TaskConditionSpelt (BodySpelt P W) task_condition_spelt (body_spelt _) (λ c b p q. ((p.0, p.1, q, p.2), tt))

  -- LOOPS
  variables_spelt : Is P W g variables (VariablesSpelt P W)
  unfolding variables
  variables_spelt =
      of_either (of_parts (of_last (name_spelt P W g) (λ x p. p)))
      (of_parts (of_deeper (λ k p. of_part (name_spelt P W g) (λ x q. of_part (after_comma_spelt P W g (name_spelt P W g)) (λ y r.
      of_part (of_maybe (after_comma_spelt P W g (name_spelt P W g))) (λ z s. of_last of_token (λ l t. (p, (q, (r, if_there_each _ z s)), t, λ none. absurd cc))))))))

  one_operator_spelt : {class : Class} {op : Op} → Is P W g (means class op) (λ o. P o.0)
  one_operator_spelt = of_means (λ k p. p)

  reduce_operator_spelt : Is P W g reduce_operator (λ o. P o.0)
  reduce_operator_spelt =
      of_either one_operator_spelt (of_either one_operator_spelt (of_either one_operator_spelt (of_either one_operator_spelt
      (of_either one_operator_spelt (of_either one_operator_spelt (of_either one_operator_spelt (of_either one_operator_spelt one_operator_spelt)))))))

  intent_spelt : Is P W g intent (IntentSpelt P W)
  unfolding intent
  intent_spelt =
      of_either (of_parts (of_part of_token (λ k p. of_last (name_spelt P W g) (λ x q. (p, q)))))
      (of_parts (of_part reduce_operator_spelt (λ o p. of_part of_token (λ k q. of_last (name_spelt P W g) (λ x r. (p, q, r))))))

  with_intents_spelt : Is P W g with_intents (WithSpelt P W)
  unfolding with_intents
  with_intents_spelt = of_parts (of_part of_token (λ w p. of_deeper (λ k q. of_part (listed_spelt P W g intent_spelt) (λ xs r. of_last of_token (λ l s. (p, q, r, s))))))

  abbrev LoopSpelt : LoopHead → Type 0
  LoopSpelt l = P l.at × VariablesSpelt P W l.variables × P l.within × ItemSpelt P W l.over

  loop_head_spelt : (word : Keyword) → Is P W g (loop_head word) LoopSpelt
  unfolding loop_head
  loop_head_spelt word = of_parts (of_part of_token (λ k p. of_part variables_spelt (λ xs q. of_part of_token (λ l r. of_last (item_spelt P W g inner) (λ i s. (p, q, r, s))))))

  abbrev TasksSpelt : LoopHead → Type 0
  TasksSpelt l = LoopSpelt l × W

  tasks_head_spelt : Is P W g (loop_head word_of.Coforall) TasksSpelt
  unfolding loop_head
  tasks_head_spelt = of_parts (of_part (of_task_word P W g refl) (λ k p. of_part variables_spelt (λ xs q. of_part of_token (λ l r. of_last (item_spelt P W g inner) (λ i s. ((p.0, q, r, s), p.1))))))

  for_loop_spelt : IsLate for_loop (InnerSpelt P W)
  unfolding for_loop
  for_loop_spelt = of_ended LoopSpelt (BodySpelt P W) (loop_head_spelt _) (body_spelt _) (λ h b p q. ((p.0, p.1, p.2, p.3, tt, q, tt), tt))

  abbrev ParallelSpelt : ParallelHead → Type 0
  ParallelSpelt l = LoopSpelt l.loop × IfThere (WithSpelt P W) l.with

  parallel_head_spelt : (word : Keyword) → Is P W g (parallel_head word) ParallelSpelt
  unfolding parallel_head
  parallel_head_spelt word = of_parts (of_part (loop_head_spelt word) (λ l p. of_last (of_maybe with_intents_spelt) (λ w q. (p, q))))

  abbrev CoforallSpelt : ParallelHead → Type 0
  CoforallSpelt l = TasksSpelt l.loop × IfThere (WithSpelt P W) l.with

  coforall_head_spelt : Is P W g (parallel_head word_of.Coforall) CoforallSpelt
  unfolding parallel_head
  coforall_head_spelt = of_parts (of_part tasks_head_spelt (λ l p. of_last (of_maybe with_intents_spelt) (λ w q. (p, q))))

  forall_spelt : IsLate (parallel_loop word_of.Forall ForallWord) (InnerSpelt P W)
  unfolding parallel_loop
  forall_spelt = of_ended ParallelSpelt (BodySpelt P W) (parallel_head_spelt _) (body_spelt _) (λ h b p q. ((p.0.0, p.0.1, p.0.2, p.0.3, p.1, q, tt), tt))

  coforall_spelt : IsLate (parallel_loop word_of.Coforall CoforallWord) (InnerSpelt P W)
  unfolding parallel_loop
  coforall_spelt = of_ended CoforallSpelt (BodySpelt P W) coforall_head_spelt (body_spelt _) (λ h b p q. ((p.0.0.0, p.0.0.1, p.0.0.2, p.0.0.3, p.1, q, p.0.1), tt))

  -- ALL STATEMENTS
  simple_statement_spelt : Is P W g simple_statement (InnerSpelt P W)
  unfolding simple_statement
  simple_statement_spelt = of_either declaration_spelt (of_either (of_parts (of_last of_token (λ k p. (p, tt)))) (of_either named_statement_spelt output_spelt))

  pub plain_statement_spelt : IsLate plain_statement (InnerSpelt P W)
  unfolding plain_statement
  plain_statement_spelt =
      of_choice (of_closed simple_statement_spelt) (of_choice if_else_spelt (of_choice while_spelt (of_choice for_loop_spelt (of_choice forall_spelt (of_choice coforall_spelt on_spelt)))))

  pub statement_spelt : IsLate statement (InnerSpelt P W)
  unfolding statement
  statement_spelt = of_choice {Q = InnerSpelt P W} (of_closed whole_block_spelt) plain_statement_spelt

module _ (P : Place → Type 0) (W : Type 0) where
  -- one level deeper
  deeper_spelt : (d : ℕ) → ((n : Nested) → Is P W (deep grammar d) (below n) (NestedSpelt P W n)) → (n : Nested) → Is P W (deep grammar (suc d)) (below n) (NestedSpelt P W n)
  unfolding grammar
  deeper_spelt d inner ItemBelow = record { holds = (item_spelt P W (deep grammar d) inner).holds }
  deeper_spelt d inner ExpressionBelow = record { holds = (expression_spelt P W (deep grammar d) inner).holds }
  deeper_spelt d inner NegBelow = record { holds = (neg_spelt P W (deep grammar d) inner base (base_spelt P W (deep grammar d) inner)).holds }
  deeper_spelt d inner NotBelow = record { holds = (not_spelt P W (deep grammar d) inner base (base_spelt P W (deep grammar d) inner)).holds }
  deeper_spelt d inner RedBelow = record { holds = (red_spelt P W (deep grammar d) inner base (base_spelt P W (deep grammar d) inner)).holds }
  deeper_spelt d inner StartBelow = record { holds = (start_spelt P W (deep grammar d) inner).holds }
  deeper_spelt d inner InsideBelow = record { holds = (inside_spelt P W (deep grammar d) inner).holds }
  deeper_spelt d inner StatementBelow = record { holds = (statement_spelt P W (deep grammar d) inner).holds }
  deeper_spelt d inner PlainBelow = record { holds = (plain_statement_spelt P W (deep grammar d) inner).holds }

  pub below_spelt : (d : ℕ) (n : Nested) → Is P W (deep grammar d) (below n) (NestedSpelt P W n)
  below_spelt zero n = record { holds = never_holds (TokenSpelt P W) (NestedSpelt P W n) }
  below_spelt (suc d) n = deeper_spelt d (below_spelt d) n

  -- the statements of a program
  stmts_spelt : (ss : List Statement) → Each (StmtSpelt P W) ss → StmtsSpelt P W (stmts_of ss)
  stmts_spelt [] h = tt
  stmts_spelt (s ∷ ss) h = (h.0, stmts_spelt ss h.1)

  module _ (d : ℕ) where
    top_spelt : Is P W (deep grammar d) top (StmtSpelt P W)
    unfolding top
    top_spelt = of_either (of_weaker (of_whole (statement_spelt P W (deep grammar d) (below_spelt d))) (λ t h. h.0)) (config_declaration_spelt P W (deep grammar d) (below_spelt d))

    tops_spelt : Is P W (deep grammar d) tops (λ make. (at : Place) → StmtsSpelt P W (make at).stmts)
    unfolding tops
    tops_spelt = of_parts (of_part of_any (λ us p. of_last (of_many top_spelt) (λ ss q at. stmts_spelt ss q)))

    program_spelt : Is P W (deep grammar d) program (λ t. StmtsSpelt P W t.stmts)
    unfolding program
    program_spelt = of_parts (of_part tops_spelt (λ make h. of_last of_any_token (λ k p. h k.at)))

  pub Spells-spelt : (d : ℕ) (ts : List Token) (t : Program) → Spells d ts t → Each (TokenSpelt P W) ts → StmtsSpelt P W t.stmts
  Spells-spelt d ts t s h = (program_spelt d).holds ts t s h
