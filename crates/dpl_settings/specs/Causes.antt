-- Why a command line gives no settings: each fault by its own cause.
use Rattle.std.specs.Prelude.{◌≡◌, ◌≢◌, ⊤, List, [], Option, Some, None}
use Rattle.clap.specs.Words.{IsAmong, Row, Text, fault_of, kind_of}
use Rattle.clap.specs.declared.error.Error.{Error}
use Rattle.clap.specs.declared.error.kind.ErrorKind.TheVariants.{OutOfMemory}
use Rattle.dpl_settings.specs.CommandLine.{budget_of, command_line, found, grid2_of, grid3_of, locales_of, maps_of}
use Rattle.dpl_settings.specs.declared.fault.LineFault.{LineFault}
use Rattle.dpl_settings.specs.declared.fault.LineFault.TheVariants.{Line, Value, Memory, Thread}
use Rattle.dpl_settings.specs.declared.fault.WrongValue.{WrongValue}
use Rattle.dpl_settings.specs.declared.fault.WrongValue.TheVariants.{Budget, Locales, Grid2, Grid3, Maps}

-- an option, where its value is none that it may have; else what goes by the value
abbrev pub wrong_or : {A : Type 0} → WrongValue → Option A → (A → Option WrongValue) → Option WrongValue
wrong_or option None others = Some option
wrong_or option (Some value) others = others value

-- The first option, in the order of the budget, the locales, the two grids and the maps, whose value is none that it may have.
-- A grid is one of the number of locales.
abbrev pub first_wrong : List Row → Option WrongValue
first_wrong rows =
    wrong_or Budget (budget_of rows) (λ turns.
    wrong_or Locales (locales_of rows) (λ locales.
    wrong_or Grid2 (grid2_of locales rows) (λ plane.
    wrong_or Grid3 (grid3_of locales rows) (λ space.
    wrong_or Maps (maps_of rows) (λ maps. None)))))

-- clap's error is of a kind for which it refuses these words; a value is refused where clap takes the words, and it is the
-- first that is wrong; want of memory has no cause in the words; that a thread was not started is never told of words
abbrev pub IsCause : List Text → LineFault → Type 0
IsCause words (Line e) = IsAmong (kind_of e) (fault_of command_line words)
IsCause words (Value v) = (fault_of command_line words ≡ []) × (first_wrong (found words) ≡ Some v)
IsCause words Memory = ⊤
IsCause words Thread = ⊥

-- an error of clap's, as a fault of the line: want of memory where it is of that kind, and only there
abbrev pub IsToldAs : Error → LineFault → Type 0
IsToldAs error (Line e) = (e ≡ error) × (kind_of e ≢ OutOfMemory)
IsToldAs error (Value v) = ⊥
IsToldAs error Memory = kind_of error ≡ OutOfMemory
IsToldAs error Thread = ⊥
