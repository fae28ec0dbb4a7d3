-- The status with which the process ends where a command line gives no settings.
use Rattle.std.specs.Prelude.{◌≡◌, ◌≢◌, ◌⊎◌, ℕ, Bool, if◌then◌else◌}
use Rattle.clap.specs.Words.{kind_of}
use Rattle.clap.specs.declared.error.kind.ErrorKind.TheVariants.{DisplayHelp, DisplayVersion}
use Rattle.dpl_settings.specs.declared.fault.LineFault.{LineFault}
use Rattle.dpl_settings.specs.declared.fault.LineFault.TheVariants.{Line, Value, Memory, Thread}

-- help and the version are what was asked for, and end well where they could be printed; every other command line without
-- settings is a mistake, or memory ran out, or the thread that was to read it was not started
abbrev pub HasLineStatus : LineFault → Bool → ℕ → Type 0
HasLineStatus (Line e) printed status = ((kind_of e ≡ DisplayHelp) ⊎ (kind_of e ≡ DisplayVersion) → status ≡ (if printed then 0 else 4))
    × (kind_of e ≢ DisplayHelp → kind_of e ≢ DisplayVersion → status ≡ 5)
HasLineStatus (Value v) printed status = status ≡ 5
HasLineStatus Memory printed status = status ≡ 3
HasLineStatus Thread printed status = status ≡ 3
