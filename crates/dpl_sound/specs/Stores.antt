-- When a store of names has what the scopes declare: a mark for each scope, and in it a content of its type for each
-- declaration. Then a name's innermost declaration and its innermost content are found together.
use Rattle.std.specs.Prelude.{◌≡◌, List, [], ◌∷◌, Option, Some, None}
use Rattle.dpl_language.specs.Tree.{Kind}
use Rattle.dpl_language.specs.Values.{Value}
use Rattle.dpl_language.specs.Environment.{Content, Plain, ArrayOf, CellOf}
use Rattle.dpl_language.specs.Names.{Text, Opened, Declared as Kept, Store, value_in}
use Rattle.dpl_rules.specs.Types.{ValueType}
use Rattle.dpl_rules.specs.Sights.{Scopes}
use Rattle.dpl_sound.specs.Typed.{OfKind, HasType}

abbrev pub AllOfKind : Kind → List Value → Type 0
AllOfKind k [] = Unit {0}
AllOfKind k (v ∷ vs) = OfKind k v × AllOfKind k vs

-- the elements of an array are of its kind
abbrev pub ElementsOfKind : Content Text → Type 0
ElementsOfKind (Plain v) = Unit {0}
ElementsOfKind (ArrayOf over k rs vs) = AllOfKind k vs
ElementsOfKind (CellOf k c) = Unit {0}

-- what a name holds is of its type, where it has one
abbrev pub ContentFits : Option ValueType → Content Text → Type 0
ContentFits None c = Unit {0}
ContentFits (Some t) c = HasType (value_in c) t × ElementsOfKind c

-- the outermost scope may be one that was never opened
abbrev pub StoreFits : Scopes → Store → Type 0
StoreFits [] [] = Unit {0}
StoreFits ([] ∷ ss) [] = ss ≡ []
StoreFits ([] ∷ ss) (Opened ∷ es) = StoreFits ss es
StoreFits ((d ∷ ds) ∷ ss) (Kept e ∷ es) = (d.origin.name ≡ e.name) × ContentFits d.type e.content × StoreFits (ds ∷ ss) es
StoreFits _ _ = ⊥
