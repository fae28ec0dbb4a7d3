-- The grammar of declarations: types, maps and initial values. Above each rule stands its line of the grammar.
-- An argument's name and a tuple are told from an expression by its value, behind which alone they may go on.
use Rattle.std.specs.Prelude.{ℕ, Bool, true, false, cond, bytes_eq, List, [], ◌∷◌, Option, Some, None}
use Rattle.dpl_syntax.specs.declared.place.Place.{Place}
use Rattle.dpl_syntax.specs.declared.token.Keyword.TheVariants as word_of
use Rattle.dpl_syntax.specs.declared.token.Contextual.{Contextual}
use Rattle.dpl_syntax.specs.declared.token.Contextual.TheVariants as contextual_of
use Rattle.dpl_syntax.specs.declared.token.Sign.TheVariants as sign_of
use Rattle.dpl_syntax.specs.Tokens.{contextual_text}
use Rattle.dpl_language.specs.Tree.{Placed, Kind, IntKind, BoolKind, Grouped, One, RangeItem, ArgumentName, StartTree, StartExpr, StartTuple, MapTree, BlockMap, CyclicMap, BlockCyclicMap, MappedTree, TypeTree, ScalarType, SyncType, DomainType, ArrayType, CreateWord, CreateBlock, CreateCyclic, InitTree, ItemInit, CreateInit, TypedTree, InitialTree, Declare}
use Rattle.dpl_language.specs.Phrases.{natural, bare_name}
use Rattle.dpl_grammar.specs.Classes.{sign, keyword, contextual}
use Rattle.dpl_grammar.specs.Rule.{Beginning, Whole, Begun, token, below, either, many, run, complete, ◌⟶◌, ◌⨾◌, ◌↓◌, ◌∎, done, maybe, means}
use Rattle.dpl_spelling.specs.Nested.{Expression, Item, Statement, Inside, OneItem, Tuple, ItemBelow, StartBelow, InsideBelow, Rule}
use Rattle.dpl_spelling.specs.Expressions.{number_token, name, after_comma, items, post, postfixed, chain_of, further, further_factor, is_negated, sum_operator, relation_operator, equality_operator, and_operator, or_operator, base, simple_base, neg, sum, relation, equality, conjunction, expression, expression_from, item}

-- Where a map starts.

-- the one, if it is there
abbrev pub if_there : {A : Type 0} → Option A → List A
if_there None = []
if_there (Some x) = x ∷ []

-- an item in a bracket; or, where it is an expression, what a tuple may begin with
abbrev pub after_inside : Item → Beginning Expression Inside
after_inside (One e) = Begun e
after_inside (RangeItem low at dots high by) = Whole (OneItem (RangeItem low at dots high by))

-- "," expr [ "," expr ], behind the first expression of a tuple
unfoldable pub tuple_end : Rule (Expression → Inside)
tuple_end = after_comma expression ⨾ maybe (after_comma expression) ∎ ⟶ λ y z x. Tuple (record { first = x; others = y ∷ if_there z })

-- item | expr "," expr [ "," expr ]
unfoldable pub inside : Rule Inside
inside = complete item after_inside (either tuple_end (done (λ e. OneItem (One e))))

-- a bracket and what it holds
pub record Bracket : Type 0 where
  pub from : Place
  pub holds : Inside
  pub upto : Place

-- "(" inside ")"
unfoldable pub bracket : Rule Bracket
bracket = sign sign_of.OpenRound ↓ below InsideBelow ⨾ token (sign sign_of.CloseRound) ∎ ⟶ λ k x l. record { from = k.at; holds = x; upto = l.at }

-- a tuple; or, where the bracket holds an item, the base that an expression begins with
abbrev pub holding : Place → Inside → Place → Beginning Expression (StartTree (List ℕ))
holding from (OneItem x) upto = Begun (Grouped from x upto)
holding from (Tuple xs) upto = Whole (StartTuple from xs upto)

abbrev pub after_bracket : Bracket → Beginning Expression (StartTree (List ℕ))
after_bracket b = holding b.from b.holds b.upto

-- what may stand behind a base in an expression, by the levels of operators
unfoldable pub expression_end : Rule (Expression → StartTree (List ℕ))
expression_end =
    many post ⨾ run (λ f. is_negated f.right) further_factor ⨾ many (further sum_operator (neg base)) ⨾ many (further relation_operator (sum base))
    ⨾ many (further equality_operator (relation base)) ⨾ many (further and_operator (equality base)) ⨾ many (further or_operator (conjunction base))
    ∎ ⟶ λ ps fs ss rs es cs ds e. StartExpr (chain_of (chain_of (chain_of (chain_of (chain_of (chain_of (postfixed e ps) fs) ss) rs) es) cs) ds)

-- start = expr | "(" expr "," expr [ "," expr ] ")"
unfoldable pub start : Rule (StartTree (List ℕ))
start = either (complete bracket after_bracket expression_end) (expression_from simple_base ∎ ⟶ λ e. StartExpr e)

-- Maps. Each argument may have its name before it.

-- the value that an argument has behind its name, if that is there
pub record Argument (A : Type 0) : Type 0 where
  pub name : Option ArgumentName
  pub value : A

abbrev pub nameless : {A : Type 0} → A → Argument A
nameless x = record { name = None; value = x }

-- a value; or, where it is this contextual word alone, what may be an argument's name
abbrev pub after_argument : {A : Type 0} → Contextual → Option (Placed (List ℕ)) → A → Beginning (Place × A) (Argument A)
after_argument w None x = Whole (nameless x)
after_argument w (Some n) x = cond (bytes_eq n.name (contextual_text w)) (Begun (n.at, x)) (Whole (nameless x))

-- "=" a, behind an argument's name
unfoldable pub argument_end : {A : Type 0} → Rule A → Rule (Place × A → Argument A)
argument_end a = token (sign sign_of.Assign) ⨾ a ∎ ⟶ λ k x n. record { name = Some (record { at = n.0; equals = k.at }); value = x }

-- the bare name that an item or a start is
abbrev pub item_name : Item → Option (Placed (List ℕ))
item_name (One e) = bare_name e
item_name (RangeItem low at dots high by) = None

abbrev pub start_name : StartTree (List ℕ) → Option (Placed (List ℕ))
start_name (StartExpr e) = bare_name e
start_name (StartTuple from xs upto) = None

-- [ "boundingBox" "=" ] item
unfoldable pub box_argument : Rule (Argument Item)
box_argument = complete (below ItemBelow) (λ x. after_argument contextual_of.BoundingBox (item_name x) x) (either (argument_end (below ItemBelow)) (done (λ n. nameless n.1)))

-- [ word "=" ] start, for `startIdx` and `blocksize`
unfoldable pub start_argument : Contextual → Rule (Argument (StartTree (List ℕ)))
start_argument w = complete (below StartBelow) (λ x. after_argument w (start_name x) x) (either (argument_end (below StartBelow)) (done (λ n. nameless n.1)))

-- "blockDist" "(" [ "boundingBox" "=" ] item ")"
unfoldable pub block_map : Rule (Place → MapTree (List ℕ))
block_map = token (keyword word_of.BlockDist) ⨾ sign sign_of.OpenRound ↓ box_argument ⨾ token (sign sign_of.CloseRound) ∎
    ⟶ λ w k b l new. BlockMap (record { new = new; word = w.at; from = k.at; argument = b.name; box = b.value; upto = l.at })

-- "cyclicDist" "(" [ "startIdx" "=" ] start ")"
unfoldable pub cyclic_map : Rule (Place → MapTree (List ℕ))
cyclic_map = token (keyword word_of.CyclicDist) ⨾ sign sign_of.OpenRound ↓ start_argument contextual_of.StartIdx ⨾ token (sign sign_of.CloseRound) ∎
    ⟶ λ w k s l new. CyclicMap (record { new = new; word = w.at; from = k.at; argument = s.name; start = s.value; upto = l.at })

-- "blockCycDist" "(" [ "startIdx" "=" ] start "," [ "blocksize" "=" ] start ")"
unfoldable pub block_cyclic_map : Rule (Place → MapTree (List ℕ))
block_cyclic_map =
    token (keyword word_of.BlockCycDist) ⨾ sign sign_of.OpenRound ↓ start_argument contextual_of.StartIdx ⨾ token (sign sign_of.Comma) ⨾ start_argument contextual_of.Blocksize
    ⨾ token (sign sign_of.CloseRound) ∎
    ⟶ λ w k s c z l new. BlockCyclicMap (record { new = new; word = w.at; from = k.at; start_argument = s.name; start = s.value; comma = c.at; size_argument = z.name; size = z.value; upto = l.at })

-- map = "new" "blockDist" .. | "new" "cyclicDist" .. | "new" "blockCycDist" ..
unfoldable pub map : Rule (MapTree (List ℕ))
map = token (keyword word_of.New) ⨾ either block_map (either cyclic_map block_cyclic_map) ∎ ⟶ λ n make. make n.at

-- "dmapped" map
unfoldable pub mapped : Rule (MappedTree (List ℕ))
mapped = token (keyword word_of.Dmapped) ⨾ map ∎ ⟶ λ k m. record { at = k.at; map = m }

-- Types.

-- "int" | "bool"
abbrev pub scalar_kind : Rule (Place × Kind)
scalar_kind = either (means (keyword word_of.Int) IntKind) (means (keyword word_of.Bool) BoolKind)

-- "sync" ("int" | "bool")
unfoldable pub sync_type : Rule (TypeTree (List ℕ))
sync_type = token (keyword word_of.Sync) ⨾ scalar_kind ∎ ⟶ λ k s. SyncType k.at s.0 s.1

-- "domain" "(" number ")" [ "dmapped" map ]
unfoldable pub domain_type : Rule (TypeTree (List ℕ))
domain_type = token (keyword word_of.Domain) ⨾ sign sign_of.OpenRound ↓ number_token ⨾ token (sign sign_of.CloseRound) ⨾ maybe mapped ∎
    ⟶ λ w k n l m. DomainType (record { at = w.at; from = k.at; rank_at = n.0; rank = natural n.1; upto = l.at; mapped = m })

-- "[" item { "," item } "]" ("int" | "bool")
unfoldable pub array_type : Rule (TypeTree (List ℕ))
array_type = sign sign_of.OpenSquare ↓ items ⨾ token (sign sign_of.CloseSquare) ⨾ scalar_kind ∎
    ⟶ λ k xs l s. ArrayType (record { from = k.at; over = xs; upto = l.at; kind_at = s.0; kind = s.1 })

-- type = "int" | "bool" | "sync" .. | "domain" .. | "[" ..
unfoldable pub declared_type : Rule (TypeTree (List ℕ))
declared_type = either (scalar_kind ∎ ⟶ λ s. ScalarType s.0 s.1) (either sync_type (either domain_type array_type))

-- ":" type
unfoldable pub typed : Rule (TypedTree (List ℕ))
typed = token (sign sign_of.Colon) ⨾ declared_type ∎ ⟶ λ k t. record { colon = k.at; type = t }

-- Initial values and declarations.

-- "blockDist" | "cyclicDist"
abbrev pub create_word : Rule (Place × CreateWord)
create_word = either (means (keyword word_of.BlockDist) CreateBlock) (means (keyword word_of.CyclicDist) CreateCyclic)

-- ("blockDist" | "cyclicDist") "." "createDomain" "(" item { "," item } ")"
unfoldable pub created : Rule (InitTree (List ℕ))
created = create_word ⨾ token (sign sign_of.Dot) ⨾ token (contextual contextual_of.CreateDomain) ⨾ sign sign_of.OpenRound ↓ items ⨾ token (sign sign_of.CloseRound) ∎
    ⟶ λ w d m k xs l. CreateInit (record { at = w.0; word = w.1; dot = d.at; method = m.at; from = k.at; items = xs; upto = l.at })

-- init = item [ "dmapped" map ] | ("blockDist" | "cyclicDist") ..
unfoldable pub init : Rule (InitTree (List ℕ))
init = either (item ⨾ maybe mapped ∎ ⟶ λ x m. ItemInit x m) created

-- "=" init
unfoldable pub initial : Rule (InitialTree (List ℕ))
initial = token (sign sign_of.Assign) ⨾ init ∎ ⟶ λ k i. record { equals = k.at; init = i }

-- a type, an initial value, or both
pub record Declared : Type 0 where
  pub typed : Option (TypedTree (List ℕ))
  pub initial : Option (InitialTree (List ℕ))

-- ":" type [ "=" init ] | "=" init
unfoldable pub declared : Rule Declared
declared = either (typed ⨾ maybe initial ∎ ⟶ λ t i. record { typed = Some t; initial = i }) (initial ∎ ⟶ λ i. record { typed = None; initial = Some i })

-- declrest = name ( ":" type [ "=" init ] | "=" init ) ";"
unfoldable pub declare_end : Rule (Option Place → Place × Bool → Statement)
declare_end = name ⨾ declared ⨾ token (sign sign_of.Semicolon) ∎
    ⟶ λ x d k config w. Declare (record { config = config; at = w.0; constant = w.1; name = x; typed = d.typed; initial = d.initial; semicolon = k.at })

-- ("const" | "var") declrest
unfoldable pub declaration : Rule Statement
declaration = either (means (keyword word_of.Const) true) (means (keyword word_of.Var) false) ⨾ declare_end ∎ ⟶ λ w make. make None w

-- "config" "const" declrest
unfoldable pub config_declaration : Rule Statement
config_declaration = token (keyword word_of.Config) ⨾ means (keyword word_of.Const) true ⨾ declare_end ∎ ⟶ λ c w make. make (Some c.at) w
