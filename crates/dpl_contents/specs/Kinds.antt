-- What the words of an array stand for.
use Rattle.dpl_language.specs.Tree.{Kind, IntKind, BoolKind}
use Rattle.dpl_contents.specs.declared.print.ElementKind.{ElementKind}
use Rattle.dpl_contents.specs.declared.print.ElementKind.TheVariants.{Int, Truth}

abbrev pub kind_of : ElementKind → Kind
kind_of Int = IntKind
kind_of Truth = BoolKind
