-- The forall that one in memory stands for, as the rules on its body see it.
-- Its depth is how many scopes are open around it.
use Rattle.std.specs.Prelude.{List, map}
use Rattle.dpl_language.specs.Tree.{Placed, AfterComma}
use Rattle.dpl_language.specs.Names.{Text}
use Rattle.dpl_language.specs.Phrases.{intents_of}
use Rattle.dpl_tree.specs.Declarations.{optional}
use Rattle.dpl_tree.specs.Statements.{variables_view, with_view}
use Rattle.dpl_rules.specs.Loops.{variables_of}
use Rattle.dpl_rules.specs.Bodies.{ForallScope, names_of}
use Rattle.dpl_bodies.specs.declared.scope.ForallScope.{ForallScope as ForallScopeNode}

abbrev pub scope_view : ForallScopeNode → ForallScope
scope_view t = record {
  variables = names_of (variables_of (variables_view t.variables));
  reducing = record { depth = t.depth; variables = intents_of (optional with_view t.with) };
}

-- the names behind commas
abbrev pub next_names : List (AfterComma (Placed Text)) → List Text
next_names xs = names_of (map {A = AfterComma (Placed Text)} {B = Placed Text} (λ x. x.part) xs)
