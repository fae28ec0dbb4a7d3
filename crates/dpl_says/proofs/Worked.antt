-- Rows: what words of the command line give, and what is dumped.
-- The program of the first rows is `config const n = 1; config const quick = false; var x: int;`.
use Rattle.std.proofs.Common.{◌≡◌, ℕ, pos, negsuc, true, false, List, [], ◌∷◌, codes, Some, None, refl}
use Rattle.std.specs.Fmt.{digits}
use Rattle.dpl_syntax.specs.declared.place.Place.{Place}
use Rattle.dpl_history.specs.declared.cell.CellState.TheVariants.{Empty, Full}
use Rattle.dpl_sets.specs.TextRanges.{TextRange}
use Rattle.dpl_language.specs.Tree.{IntKind, BoolKind, ExprTree, Number, TruthWord, One, ScalarType, ItemInit, StmtTree, Declare, NoStmts, Then, ProgramTree}
use Rattle.dpl_language.specs.Values.{Int, Truth, Range, Domain}
use Rattle.dpl_language.specs.Ranges.{unstrided}
use Rattle.dpl_language.specs.Environment.{Plain, ArrayOf, CellOf}
use Rattle.dpl_language.specs.Names.{Text, Frame}
use Rattle.dpl_says.specs.Given.{given}
use Rattle.dpl_says.specs.Dump.{dumped}

abbrev here : Place
here = record { line = 1; column = 1 }

abbrev configured : List ℕ → ExprTree Text → StmtTree Text
configured x e = Declare (record {
  config = Some here;
  at = here;
  constant = true;
  name = record { at = here; name = x };
  typed = None;
  initial = Some (record { equals = here; init = ItemInit (One e) None });
  semicolon = here;
})

abbrev variable : List ℕ → StmtTree Text
variable x = Declare (record {
  config = None;
  at = here;
  constant = false;
  name = record { at = here; name = x };
  typed = Some (record { colon = here; type = ScalarType here IntKind });
  initial = None;
  semicolon = here;
})

abbrev program : ProgramTree Text
program = record {
  uses = [];
  stmts = Then (configured (codes "n") (Number here (pos 1))) (Then (configured (codes "quick") (TruthWord here false)) (Then (variable (codes "x")) NoStmts));
  end = here;
}

no_words : given program [] ≡ []
no_words = refl

an_int : given program (codes "n=70" ∷ []) ≡ (codes "n", Int (pos 70)) ∷ []
an_int = refl

below_zero : given program (codes "n=-3" ∷ []) ≡ (codes "n", Int (negsuc 2)) ∷ []
below_zero = refl

two_words : given program (codes "quick=true" ∷ codes "n=0" ∷ []) ≡ (codes "quick", Truth true) ∷ (codes "n", Int (pos 0)) ∷ []
two_words = refl

falsehood : given program (codes "quick=false" ∷ []) ≡ (codes "quick", Truth false) ∷ []
falsehood = refl

unknown_name : given program (codes "m=1" ∷ []) ≡ []
unknown_name = refl

no_sign : given program (codes "n" ∷ []) ≡ []
no_sign = refl

-- THE DUMP
abbrev one_to : ℕ → TextRange
one_to n = unstrided (pos 1) (pos n)

abbrev left : Frame
left =
    record { name = codes "n"; content = Plain (Int (negsuc 4)) } ∷ record { name = codes "quick"; content = Plain (Truth true) }
    ∷ record { name = codes "R"; content = Plain (Range (one_to 3)) } ∷ record { name = codes "D"; content = Plain (Domain (one_to 3 ∷ [])) }
    ∷ record { name = codes "A"; content = ArrayOf (Some (codes "D")) IntKind (one_to 3 ∷ []) (Int (pos 1) ∷ Int (pos 4) ∷ Int (pos 9) ∷ []) }
    ∷ record { name = codes "B"; content = ArrayOf None BoolKind (one_to 0 ∷ []) [] }
    ∷ record { name = codes "c"; content = CellOf IntKind Empty } ∷ record { name = codes "d"; content = CellOf IntKind (Full (pos 5)) }
    ∷ record { name = codes "e"; content = CellOf BoolKind (Full (pos 1)) } ∷ []

dump : dumped left ≡ codes "n = -5\nquick = true\nA = 1 4 9\nB =\nc = empty\nd = 5\ne = true\n"
unfolding digits
dump = refl

nothing_left : dumped [] ≡ []
nothing_left = refl
