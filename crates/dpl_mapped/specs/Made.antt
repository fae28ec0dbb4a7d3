-- What is made of the parts of a map: a box, an int or an index as where it starts, and what stands for `low` behind a domain.
-- Where nothing is made, the rule isn't met.
use Rattle.std.specs.Prelude.{◌≡◌, ℕ, ◌<◌, false, ◌&&◌, List, [], ◌∷◌, length, map, Option, Some, None}
use Rattle.std.specs.Borrow.{Bor}
use Rattle.dpl_syntax.specs.declared.refusal.Breach.{Breach}
use Rattle.dpl_language.specs.Names.{Text}
use Rattle.dpl_language.specs.Tree.{AfterComma, ExprTree, ItemTree, One, Plainly, Exprs, FirstExpr, MoreExprs, NoExprs, NextExpr, StartTree, StartExpr, StartTuple, MapTree}
use Rattle.dpl_rules.specs.Types.{has, is_int, is_domain}
use Rattle.dpl_rules.specs.Verdicts.{all_known, each_wanted}
use Rattle.dpl_rules.specs.Sights.{Scopes}
use Rattle.dpl_lowered.specs.Shapes.{nowhere}
use Rattle.dpl_lowered.specs.LoweredExpressions.{Once}
use Rattle.dpl_memory.specs.Memory.{Variable}
use Rattle.dpl_nodes.specs.declared.placing.MapExpr.{MapExpr}
use Rattle.dpl_nodes.specs.declared.placing.StartExpr.{StartExpr as StartNode}
use Rattle.dpl_nodes.specs.declared.tree.DomainExpr.{DomainExpr}
use Rattle.dpl_nodes.specs.declared.tree.IndexExpr.{IndexExpr}
use Rattle.dpl_nodes.specs.Spots.{IsNear}
use Rattle.dpl_nodes.specs.Steps.{start_view, map_view}
use Rattle.dpl_nodes.specs.Typed.{dotted, domain_view, index_exprs}
use Rattle.dpl_spelling.specs.Spelt.{StartSpelt}
use Rattle.dpl_types.specs.Owes.{are_none}
use Rattle.dpl_typed.specs.declared.typed.Typed.{Typed}
use Rattle.dpl_typed.specs.declared.part.Part.{Part as PartNode}
use Rattle.dpl_typed.specs.Leaves.{IsFound}
use Rattle.dpl_typed.specs.Lowered.{leaves_of, item_leaves, exprs_leaves}
use Rattle.dpl_typed.specs.Stands.{IsArgument, IsItem, AreArguments}
use Rattle.dpl_typed.specs.Typed.{types_of, part_view}
use Rattle.dpl_typed.specs.Where.{WhereSimple, WhereSimpleItem}
use Rattle.dpl_mapped.specs.declared.low.Low.{Low as LowNode}
use Rattle.dpl_mapped.specs.Starts.{IsSimpleStart, start_leaves}
use Rattle.dpl_mapped.specs.Named.{map_leaves, IsKnownRank, IsPlainMap}
use Rattle.dpl_mapped.specs.Told.{bound_word}

-- ---- boxes
-- a domain, if that was found
abbrev pub IsBox : Option Typed → Option (Bor DomainExpr) → Type 0
IsBox found None = has is_domain (types_of found) ≡ false
IsBox found (Some d) = (i : ItemTree Variable) → IsItem found i → One (domain_view d.now) ≡ i

abbrev pub IsBoxAs : Scopes → ItemTree Text → Option (Bor DomainExpr) → Type 0
IsBoxAs scopes i None = ⊥
IsBoxAs scopes i (Some d) = One (domain_view d.now) ≡ item_leaves scopes Once i

-- an item as a box, where nothing was told
abbrev pub MakesBox : Scopes → ItemTree Text → Option Breach → Option (Bor DomainExpr) → Type 0
MakesBox scopes i told d = told ≡ None → WhereSimpleItem scopes i (IsBoxAs scopes i d)

-- ---- starts
-- an int, if that was found
abbrev pub IsIntStart : Option Typed → Option StartNode → Type 0
IsIntStart found None = has is_int (types_of found) ≡ false
IsIntStart found (Some s) = (e : ExprTree Variable) → IsArgument found e → start_view s ≡ StartExpr e

-- `low` or `lowBound` behind an expression
abbrev pub IsEnded : Scopes → ExprTree Text → LowNode → Option StartNode → Type 0
IsEnded scopes e l None = ⊥
IsEnded scopes e l (Some s) = start_view s ≡ StartExpr (dotted (leaves_of scopes Once e) (Plainly l.at (bound_word l.bound)))

-- an index of ints, if all parts are ints
abbrev pub AreInts : List PartNode → Option (Bor IndexExpr) → Type 0
AreInts ps None = (all_known (map part_view ps) && are_none (each_wanted is_int (map part_view ps))) ≡ false
AreInts ps (Some t) = (es : Exprs Variable) → length ps < 4 → AreArguments ps es → index_exprs t.now ≡ es

-- an index by itself, or several numbers in a tuple
abbrev pub commas : MoreExprs Variable → List (AfterComma (ExprTree Variable))
commas NoExprs = []
commas (NextExpr comma e more) = record { comma = nowhere; part = e } ∷ commas more

abbrev pub start_by : Exprs Variable → StartTree Variable
start_by (FirstExpr e NoExprs) = StartExpr e
start_by (FirstExpr e (NextExpr comma f more)) = StartTuple nowhere (record { first = e; others = commas (NextExpr comma f more) }) nowhere

abbrev pub IsIndexOf : Scopes → Exprs Text → Option StartNode → Type 0
IsIndexOf scopes es None = ⊥
IsIndexOf scopes es (Some s) = start_view s ≡ start_by (exprs_leaves scopes es)

-- whatever is written
abbrev pub IsPlainStart : Scopes → Option ℕ → StartTree Text → Type 0
IsPlainStart scopes rank s = IsKnownRank rank × IsSimpleStart (IsFound scopes) s × StartSpelt IsNear ⊥ s

abbrev pub IsStartAs : Scopes → StartTree Text → Option StartNode → Type 0
IsStartAs scopes s None = ⊥
IsStartAs scopes s (Some e) = start_view e ≡ start_leaves scopes s

-- an expression as a start, where nothing was told
abbrev pub MakesStart : Scopes → ExprTree Text → Option Breach → Option StartNode → Type 0
MakesStart scopes e told s = told ≡ None → WhereSimple scopes e (IsStartAs scopes (StartExpr e) s)

-- ---- maps
abbrev pub IsMapAs : Scopes → MapTree Text → Option MapExpr → Type 0
IsMapAs scopes m None = ⊥
IsMapAs scopes m (Some e) = map_view e ≡ map_leaves scopes m

-- a map, where nothing was told
abbrev pub MakesMap : Scopes → Option ℕ → MapTree Text → Option Breach → Option MapExpr → Type 0
MakesMap scopes rank m told made = told ≡ None → IsPlainMap scopes rank m → IsMapAs scopes m made
