-- The names of a list of intents that were seen: they stand in a scope of their own.
-- The rule asks of them whether a name is among them.
use Rattle.std.specs.Prelude.{not, List, [], ◌∷◌, ◌++◌, None}
use Rattle.dpl_syntax.specs.declared.refusal.Breach.{Breach}
use Rattle.dpl_syntax.specs.declared.refusal.Code.TheVariants.{NameTwice}
use Rattle.dpl_language.specs.Tree.{IntentTree, ReduceIntent, RefIntent}
use Rattle.dpl_language.specs.Names.{Text}
use Rattle.dpl_tree.specs.declared.expression.Name.{Name as NameNode}
use Rattle.dpl_tree.specs.declared.statement.Intent.{Intent}
use Rattle.dpl_tree.specs.declared.statement.Intent.TheVariants.{Reduce, Ref}
use Rattle.dpl_rules.specs.Verdicts.{owed}
use Rattle.dpl_rules.specs.Sights.{Variable, Scopes, lookup, declared_here, add, origin_in}
use Rattle.dpl_rules.specs.Loops.{reduce_intent, ref_intent}

abbrev pub intent_name : Intent → NameNode
intent_name (Reduce at op word x) = x
intent_name (Ref at x) = x

abbrev pub named : IntentTree Text → Text
named (ReduceIntent at op word x) = x.name
named (RefIntent at x) = x.name

-- one more name that was seen
abbrev pub see : Text → Scopes → Scopes
see x seen = add (record { origin = origin_in seen x; sort = Variable; type = None }) seen

-- what an intent owes behind names that were seen
abbrev pub intent_told : Scopes → Scopes → IntentTree Text → List Breach
intent_told scopes seen (ReduceIntent at op word x) = owed (not (declared_here seen x.name)) x.at NameTwice ++ reduce_intent op x.at (lookup scopes x.name)
intent_told scopes seen (RefIntent at x) = owed (not (declared_here seen x.name)) x.at NameTwice ++ ref_intent x.at (lookup scopes x.name)

abbrev pub seen_told : Scopes → Scopes → List (IntentTree Text) → List Breach
seen_told scopes seen [] = []
seen_told scopes seen (i ∷ rest) = intent_told scopes seen i ++ seen_told scopes (see (named i) seen) rest
