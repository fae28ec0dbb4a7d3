-- Each tree that tokens spell is as specs/Spelt.antt says, rule by rule of the grammar: expressions, and what they are made of.
-- What holds of the rules one level deeper is handed in.
use Rattle.std.proofs.Common.{◌≡◌, ◌≢◌, Bool, true, false, cond, List, [], ◌∷◌, Option, Some, None, refl}
use Rattle.dpl_syntax.specs.declared.place.Place.{Place}
use Rattle.dpl_syntax.specs.declared.token.Token.{Token}
use Rattle.dpl_language.specs.Names.{Text}
use Rattle.dpl_language.specs.Tree.{AfterComma, Infix, Word, Number, TruthWord, Named, LocalesWord, LocaleCount, HereWord, Grouped, DomainLiteral, Prefixed, Reduced, Chain, Postfixed, One, PostTree}
use Rattle.dpl_grammar.specs.Numbers.{kind_number}
use Rattle.dpl_grammar.specs.Classes.{Class, in_class, task_words, within}
use Rattle.dpl_grammar.specs.Each.{Each, IfThere}
use Rattle.dpl_grammar.specs.Rule.{Parts, Deep, Whole, Begun, token, below, means, ◌↓◌}
use Rattle.dpl_grammar.proofs.Values.{Begins, OfRule, OfParts, OfLate, of_class, of_weaker, of_either, of_many, of_run, of_complete, of_part, of_parts, of_closed, of_opened, of_choice, of_ended, of_done, of_last, of_maybe}
use Rattle.dpl_grammar.proofs.Values.{of_token as of_any_token, of_deeper as of_any_deeper, of_means as of_any_means}
use Rattle.dpl_grammar.proofs.Classes.{within_is}
use Rattle.dpl_spelling.specs.Nested.{Nested, Value, Inside, OneItem, Tuple, Expression, Item, Statement, ItemBelow, ExpressionBelow, NegBelow, NotBelow, RedBelow, StartBelow, InsideBelow, StatementBelow, PlainBelow, nested, Rule}
use Rattle.dpl_spelling.specs.Expressions.{name, number_token, after_comma, listed, more_items, more_exprs, items, exprs, plain_words, plain_among, cell_read, dim, contains, expand, plain_methods, method, brackets, rounds, dotted, post, domain_literal, grouped, simple_base, base, posts_of, postfixed, postfix, reduction_by, reduction, red, complement, not, Further, links_of, chain_of, further, product_operator, minus, further_factor, product, neg, sum_operator, sum, relation_operator, relation, equality_operator, equality, and_operator, conjunction, or_operator, expression_from, expression, are_in_sum, after_first, closed_or_counted, range_dots, stride, range_end, item}
use Rattle.dpl_spelling.specs.Spelt.{Level, Products, Sums, Relations, Equalities, Conjunctions, Disjunctions, level_of, AreOfLevel, NameSpelt, PartSpelt, ListSpelt, DotsSpelt, ExprSpelt, ItemSpelt, StrideSpelt, LinksSpelt, PostsSpelt, PostSpelt, MethodSpelt, ItemsSpelt, MoreItemsSpelt, ExprsSpelt, MoreExprsSpelt, StartSpelt, StmtSpelt, IsInner}

-- of the tokens, and of a token that may be any
abbrev pub TokenSpelt : (Place → Type 0) → Type 0 → Token → Type 0
TokenSpelt P W k = P k.at × (in_class task_words k ≡ true → W)

abbrev pub PlaceSpelt : (Place → Type 0) → Token → Type 0
PlaceSpelt P k = P k.at

abbrev pub InsideSpelt : (Place → Type 0) → Type 0 → Inside → Type 0
InsideSpelt P W (OneItem x) = ItemSpelt P W x
InsideSpelt P W (Tuple xs) = ListSpelt P W (ExprSpelt P W) xs × (xs.others ≢ [])

-- of a statement that stands inside of another
abbrev pub InnerSpelt : (Place → Type 0) → Type 0 → Statement → Type 0
InnerSpelt P W t = StmtSpelt P W t × IsInner t

-- of the value of each rule that may stand one level deeper
abbrev pub NestedSpelt : (Place → Type 0) → Type 0 → (n : Nested) → Value n → Type 0
NestedSpelt P W ItemBelow x = ItemSpelt P W x
NestedSpelt P W ExpressionBelow x = ExprSpelt P W x
NestedSpelt P W NegBelow x = ExprSpelt P W x
NestedSpelt P W NotBelow x = ExprSpelt P W x
NestedSpelt P W RedBelow x = ExprSpelt P W x
NestedSpelt P W StartBelow x = StartSpelt P W x
NestedSpelt P W InsideBelow x = InsideSpelt P W x
NestedSpelt P W StatementBelow x = InnerSpelt P W x
NestedSpelt P W PlainBelow x = InnerSpelt P W x

module _ (P : Place → Type 0) (W : Type 0) (g : Deep nested) where
  abbrev pub Is : {T : Type 0} → Rule T → (T → Type 0) → Type 0
  Is r Q = OfRule g (TokenSpelt P W) r Q

  -- TOKENS
  pub of_token : {class : Class} → Is (token class) (PlaceSpelt P)
  of_token = of_weaker of_any_token (λ k h. h.0)

  -- a word of tasks
  pub of_task_word : {class : Class} → within class task_words ≡ true → Is (token class) (λ k. P k.at × W)
  of_task_word {class = class} e = of_weaker of_class (λ k h. (h.0.0, h.0.1 (within_is class task_words (kind_number k.kind) e h.1)))

  pub of_deeper : {R T : Type 0} {class : Class} {parts : Parts nested R T} {f : Token → R} {Q : T → Type 0}
      → ((k : Token) → P k.at → OfParts g (TokenSpelt P W) parts (f k) Q) → OfParts g (TokenSpelt P W) (class ↓ parts) f Q
  of_deeper h = of_any_deeper (λ k p. h k p.0)

  pub of_means : {T : Type 0} {class : Class} {x : T} {Q : Place × T → Type 0} → ((k : Token) → P k.at → Q (k.at, x)) → Is (means class x) Q
  of_means h = of_any_means (λ k p. h k p.0)

  -- NAMES, NUMBERS AND LISTS
  pub name_spelt : Is name (NameSpelt P W)
  name_spelt = of_parts (of_last of_token (λ k p. p))

  pub number_token_spelt : Is number_token (λ n. P n.0)
  number_token_spelt = of_parts (of_last of_token (λ k p. p))

  pub after_comma_spelt : {A : Type 0} {a : Rule A} {Q : A → Type 0} → Is a Q → Is (after_comma a) (PartSpelt P W Q)
  unfolding after_comma
  after_comma_spelt h = of_parts (of_part of_token (λ k p. of_last h (λ x q. (p, q))))

  pub listed_spelt : {A : Type 0} {a : Rule A} {Q : A → Type 0} → Is a Q → Is (listed a) (ListSpelt P W Q)
  unfolding listed
  listed_spelt h = of_parts (of_part h (λ x q. of_last (of_many (after_comma_spelt h)) (λ xs qs. (q, qs))))

  more_items_spelt : (xs : List (AfterComma Item)) → Each (PartSpelt P W (ItemSpelt P W)) xs → MoreItemsSpelt P W (more_items xs)
  more_items_spelt [] h = tt
  more_items_spelt (x ∷ xs) h = (h.0.0, h.0.1, more_items_spelt xs h.1)

  more_exprs_spelt : (xs : List (AfterComma Expression)) → Each (PartSpelt P W (ExprSpelt P W)) xs → MoreExprsSpelt P W (more_exprs xs)
  more_exprs_spelt [] h = tt
  more_exprs_spelt (x ∷ xs) h = (h.0.0, h.0.1, more_exprs_spelt xs h.1)

  posts_spelt : (ps : List (PostTree Text)) → Each (PostSpelt P W) ps → PostsSpelt P W (posts_of ps)
  posts_spelt [] h = tt
  posts_spelt (p ∷ ps) h = (h.0, posts_spelt ps h.1)

  pub postfixed_spelt : (e : Expression) (ps : List (PostTree Text)) → ExprSpelt P W e → Each (PostSpelt P W) ps → ExprSpelt P W (postfixed e ps)
  unfolding postfixed
  postfixed_spelt e [] h k = h
  postfixed_spelt e (p ∷ ps) h k = (tt, h, posts_spelt (p ∷ ps) k)

  -- a further operand of a chain of a level
  abbrev pub FurtherSpelt : Level → Further → Type 0
  FurtherSpelt l f = P f.at × (level_of f.op ≡ l) × ExprSpelt P W f.right

  links_level : (l : Level) (fs : List Further) → Each (FurtherSpelt l) fs → AreOfLevel l (links_of fs)
  links_level l [] h = tt
  links_level l (f ∷ fs) h = (h.0.1, links_level l fs h.1)

  links_spelt : (l : Level) (fs : List Further) → Each (FurtherSpelt l) fs → LinksSpelt P W (links_of fs)
  links_spelt l [] h = tt
  links_spelt l (f ∷ fs) h = (h.0.0, h.0.2, links_spelt l fs h.1)

  pub chain_spelt : (l : Level) (e : Expression) (fs : List Further) → ExprSpelt P W e → Each (FurtherSpelt l) fs → ExprSpelt P W (chain_of e fs)
  unfolding chain_of
  chain_spelt l e [] h k = h
  chain_spelt l e (f ∷ fs) h k = (rw k.0.1 (links_level l fs k.1), h, links_spelt l (f ∷ fs) k)

  module _ (inner : (n : Nested) → Is (below n) (NestedSpelt P W n)) where
    pub items_spelt : Is items (ItemsSpelt P W)
    unfolding items
    items_spelt = of_parts (of_last (listed_spelt (inner ItemBelow)) (λ xs h. (h.0, more_items_spelt xs.others h.1)))

    pub exprs_spelt : Is exprs (ExprsSpelt P W)
    unfolding exprs
    exprs_spelt = of_parts (of_last (listed_spelt (inner ExpressionBelow)) (λ xs h. (h.0, more_exprs_spelt xs.others h.1)))

    -- METHODS AND POSTS
    dim_spelt : Is dim (MethodSpelt P W)
    unfolding dim
    dim_spelt = of_parts (of_part of_token (λ w p. of_deeper (λ k q. of_part number_token_spelt (λ n r. of_last of_token (λ l s. (p, q, r, s))))))

    contains_spelt : Is contains (MethodSpelt P W)
    unfolding contains
    contains_spelt = of_parts (of_part of_token (λ w p. of_deeper (λ k q. of_part exprs_spelt (λ es r. of_last of_token (λ l s. (p, q, r, s))))))

    expand_spelt : Is expand (MethodSpelt P W)
    unfolding expand
    expand_spelt = of_parts (of_part of_token (λ w p. of_deeper (λ k q. of_part (inner ExpressionBelow) (λ e r. of_last of_token (λ l s. (p, q, r, s))))))

    method_spelt : Is method (MethodSpelt P W)
    unfolding method plain_methods
    method_spelt =
        of_either dim_spelt (of_either contains_spelt (of_either expand_spelt (of_either read (of_either read (plain plain_words.0 plain_words.1)))))
      where
        read : {class : Class} {word : _} → Is (cell_read class word) (MethodSpelt P W)
        read = of_parts (of_part of_token (λ w p. of_deeper (λ k q. of_last of_token (λ l r. (p, q, r)))))

        plain : (w : Class × Word) (ws : List (Class × Word)) → Is (plain_among w ws) (MethodSpelt P W)
        plain w [] = of_parts (of_last of_token (λ k p. p))
        plain w (v ∷ vs) = of_either (of_parts (of_last of_token (λ k p. p))) (plain v vs)

    pub post_spelt : Is post (PostSpelt P W)
    unfolding post brackets rounds dotted
    post_spelt =
        of_either (of_parts (of_deeper (λ k p. of_part items_spelt (λ xs q. of_last of_token (λ l r. (p, q, r))))))
        (of_either (of_parts (of_deeper (λ k p. of_part exprs_spelt (λ es q. of_last of_token (λ l r. (p, q, r))))))
        (of_parts (of_part of_token (λ k p. of_last method_spelt (λ m q. (p, q))))))

    -- BASES
    pub simple_base_spelt : Is simple_base (ExprSpelt P W)
    unfolding simple_base domain_literal
    simple_base_spelt =
        of_either (of_parts (of_last name_spelt (λ x p. p)))
        (of_either (of_parts (of_last number_token_spelt (λ n p. p)))
        (of_either (of_parts (of_last of_token (λ k p. p)))
        (of_either (of_parts (of_last of_token (λ k p. p)))
        (of_either (of_parts (of_last (of_task_word refl) (λ k p. p)))
        (of_either (of_parts (of_last (of_task_word refl) (λ k p. p)))
        (of_either (of_parts (of_last (of_task_word refl) (λ k p. p)))
        (of_parts (of_deeper (λ k p. of_part items_spelt (λ xs q. of_last of_token (λ l r. (p, q, r))))))))))))

    pub base_spelt : Is base (ExprSpelt P W)
    unfolding base grouped
    base_spelt = of_either simple_base_spelt (of_parts (of_deeper (λ k p. of_part (inner ItemBelow) (λ x q. of_last of_token (λ l r. (p, q, r))))))

    -- OPERATORS
    reduction_spelt : Is reduction (ExprSpelt P W)
    unfolding reduction
    reduction_spelt = of_either by (of_either by (of_either by (of_either by (of_either by (of_either by (of_either by (of_either by by)))))))
      where
        by : {class : Class} {op : _} → Is (reduction_by class op) (ExprSpelt P W)
        by = of_parts (of_deeper (λ k p. of_part of_token (λ w q. of_last (inner RedBelow) (λ e r. (p, q, r)))))

    module _ (b : Rule Expression) (h : Is b (ExprSpelt P W)) where
      pub red_spelt : Is (red b) (ExprSpelt P W)
      unfolding red postfix
      red_spelt = of_either reduction_spelt (of_parts (of_part h (λ e p. of_last (of_many post_spelt) (λ ps q. postfixed_spelt e ps p q))))

      pub not_spelt : Is (not b) (ExprSpelt P W)
      unfolding not complement
      not_spelt = of_either (of_parts (of_deeper (λ k p. of_last (inner NotBelow) (λ e q. (p, q))))) red_spelt

    -- an operator of a level
    abbrev OperatorSpelt : Level → Place × Infix → Type 0
    OperatorSpelt l o = P o.0 × (level_of o.1 ≡ l)

    pub further_spelt : {l : Level} {operator : Rule (Place × Infix)} {operand : Rule Expression} → Is operator (OperatorSpelt l) → Is operand (ExprSpelt P W) → Is (further operator operand) (FurtherSpelt l)
    unfolding further
    further_spelt h k = of_parts (of_part h (λ o p. of_last k (λ e q. (p.0, p.1, q))))

    product_operator_spelt : Is product_operator (OperatorSpelt Products)
    product_operator_spelt = of_either (of_means (λ k p. (p, refl))) (of_either (of_means (λ k p. (p, refl))) (of_means (λ k p. (p, refl))))

    pub sum_operator_spelt : Is sum_operator (OperatorSpelt Sums)
    sum_operator_spelt = of_either (of_means (λ k p. (p, refl))) (of_means (λ k p. (p, refl)))

    pub relation_operator_spelt : Is relation_operator (OperatorSpelt Relations)
    relation_operator_spelt = of_either (of_means (λ k p. (p, refl))) (of_either (of_means (λ k p. (p, refl))) (of_either (of_means (λ k p. (p, refl))) (of_means (λ k p. (p, refl)))))

    pub equality_operator_spelt : Is equality_operator (OperatorSpelt Equalities)
    equality_operator_spelt = of_either (of_means (λ k p. (p, refl))) (of_means (λ k p. (p, refl)))

    pub and_operator_spelt : Is and_operator (OperatorSpelt Conjunctions)
    and_operator_spelt = of_means (λ k p. (p, refl))

    pub or_operator_spelt : Is or_operator (OperatorSpelt Disjunctions)
    or_operator_spelt = of_means (λ k p. (p, refl))

    minus_spelt : Is minus (λ m. P m.0 × ExprSpelt P W m.1)
    minus_spelt = of_parts (of_deeper (λ k p. of_last (inner NegBelow) (λ e q. (p, q))))

    -- a factor of a product that goes on
    pub further_factor_spelt : OfLate g (TokenSpelt P W) further_factor (FurtherSpelt Products)
    unfolding further_factor
    further_factor_spelt =
        of_ended (OperatorSpelt Products) (ExprSpelt P W) product_operator_spelt
        (of_choice (of_opened (λ m. P m.0 × ExprSpelt P W m.1) minus_spelt (λ m p. p)) (of_closed (not_spelt base base_spelt)))
        (λ o e p q. (p.0, p.1, q))

    -- LEVELS. Of each base that a first operand may begin with.
    module _ (b : Rule Expression) (h : Is b (ExprSpelt P W)) where
      pub product_spelt : Is (product b) (ExprSpelt P W)
      unfolding product
      product_spelt = of_parts (of_part (not_spelt b h) (λ e p. of_last (of_run further_factor_spelt) (λ fs q. chain_spelt Products e fs p q)))

      pub neg_spelt : Is (neg b) (ExprSpelt P W)
      unfolding neg
      neg_spelt = of_either (of_parts (of_last minus_spelt (λ m p. p))) product_spelt

    module _ (b : Rule Expression) (h : Is b (ExprSpelt P W)) where
      pub sum_spelt : Is (sum b) (ExprSpelt P W)
      unfolding sum
      sum_spelt =
          of_parts (of_part (neg_spelt b h) (λ e p.
          of_last (of_many (further_spelt sum_operator_spelt (neg_spelt base base_spelt))) (λ fs q. chain_spelt Sums e fs p q)))

    module _ (b : Rule Expression) (h : Is b (ExprSpelt P W)) where
      pub relation_spelt : Is (relation b) (ExprSpelt P W)
      unfolding relation
      relation_spelt =
          of_parts (of_part (sum_spelt b h) (λ e p.
          of_last (of_many (further_spelt relation_operator_spelt (sum_spelt base base_spelt))) (λ fs q. chain_spelt Relations e fs p q)))

    module _ (b : Rule Expression) (h : Is b (ExprSpelt P W)) where
      pub equality_spelt : Is (equality b) (ExprSpelt P W)
      unfolding equality
      equality_spelt =
          of_parts (of_part (relation_spelt b h) (λ e p.
          of_last (of_many (further_spelt equality_operator_spelt (relation_spelt base base_spelt))) (λ fs q. chain_spelt Equalities e fs p q)))

    module _ (b : Rule Expression) (h : Is b (ExprSpelt P W)) where
      pub conjunction_spelt : Is (conjunction b) (ExprSpelt P W)
      unfolding conjunction
      conjunction_spelt =
          of_parts (of_part (equality_spelt b h) (λ e p.
          of_last (of_many (further_spelt and_operator_spelt (equality_spelt base base_spelt))) (λ fs q. chain_spelt Conjunctions e fs p q)))

    pub expression_from_spelt : (b : Rule Expression) → Is b (ExprSpelt P W) → Is (expression_from b) (ExprSpelt P W)
    unfolding expression_from
    expression_from_spelt b h =
        of_parts (of_part (conjunction_spelt b h) (λ e p.
        of_last (of_many (further_spelt or_operator_spelt (conjunction_spelt base base_spelt))) (λ fs q. chain_spelt Disjunctions e fs p q)))

    pub expression_spelt : Is expression (ExprSpelt P W)
    expression_spelt = expression_from_spelt base base_spelt

    -- ITEMS
    after_first_spelt : (e : Expression) → ExprSpelt P W e → Begins (ExprSpelt P W) (ItemSpelt P W) (after_first e)
    after_first_spelt (Number at n) h = h
    after_first_spelt (TruthWord at b) h = h
    after_first_spelt (Named x) h = h
    after_first_spelt (LocalesWord at) h = h
    after_first_spelt (LocaleCount at) h = h
    after_first_spelt (HereWord at) h = h
    after_first_spelt (Grouped from x upto) h = h
    after_first_spelt (DomainLiteral from xs upto) h = h
    after_first_spelt (Prefixed at op e) h = h
    after_first_spelt (Reduced at op word e) h = h
    after_first_spelt (Chain e rest) h = by (are_in_sum rest)
      where
        by : (c : Bool) → Begins (ExprSpelt P W) (ItemSpelt P W) (cond c (Begun (Chain e rest)) (Whole (One (Chain e rest))))
        by true = h
        by false = h
    after_first_spelt (Postfixed e posts) h = h

    dots_spelt : Is range_dots (λ d. P d.0 × DotsSpelt P W d.1)
    unfolding range_dots
    dots_spelt = of_either (of_parts (of_part of_token (λ k p. of_last (of_maybe of_token) (λ o q. (p, hash o q))))) (of_means (λ k p. (p, tt)))
      where
        hash : (o : Option Token) → IfThere (PlaceSpelt P) o → DotsSpelt P W (closed_or_counted o)
        hash None q = tt
        hash (Some k) q = q

    stride_spelt : Is stride (StrideSpelt P W)
    unfolding stride
    stride_spelt = of_either (of_parts (of_part of_token (λ k p. of_last (sum_spelt base base_spelt) (λ e q. (p, q))))) (of_done tt)

    range_end_spelt : Is range_end (λ make. (low : Expression) → ExprSpelt P W low → ItemSpelt P W (make low))
    unfolding range_end
    range_end_spelt = of_parts (of_part dots_spelt (λ d p. of_part (sum_spelt base base_spelt) (λ high q. of_last stride_spelt (λ by r low s. (s, p.0, p.1, q, r)))))

    pub item_spelt : Is item (ItemSpelt P W)
    unfolding item
    item_spelt = of_complete (ExprSpelt P W) (ExprSpelt P W) expression_spelt after_first_spelt (of_either range_end_spelt (of_done (λ e p. p)))
