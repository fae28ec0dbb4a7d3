-- The first value that is wrong is told: those before it are right, and a grid is refused where there is a number of locales.
use Rattle.std.proofs.Common.{◌≡◌, ℕ, refl, rules, List, map, Some, None}
use Rattle.clap.specs.Words.{Row}
use Rattle.dpl_settings.specs.CommandLine.{budget_of, found, grid2_of, grid3_of, locales_of, maps_of}
use Rattle.dpl_settings.specs.Causes.{first_wrong}
use Rattle.dpl_settings.specs.declared.fault.WrongValue.TheVariants.{Locales, Grid2, Grid3, Maps}
use Rattle.dpl_settings.proofs.reading.settings.Goals as goal

wrong_locales : (rows : List Row) {t : ℕ} → budget_of rows ≡ Some t → locales_of rows ≡ None → first_wrong rows ≡ Some Locales
wrong_locales rows b l = rw (b, l) refl

wrong_grid2 : (rows : List Row) {t n : ℕ} → budget_of rows ≡ Some t → locales_of rows ≡ Some n → grid2_of n rows ≡ None → first_wrong rows ≡ Some Grid2
wrong_grid2 rows b l g = rw (b, l, g) refl

wrong_grid3 : (rows : List Row) {t n : ℕ} {plane : List ℕ} → budget_of rows ≡ Some t → locales_of rows ≡ Some n → grid2_of n rows ≡ Some plane → grid3_of n rows ≡ None → first_wrong rows ≡ Some Grid3
wrong_grid3 rows b l g h = rw (b, l, g, h) refl

wrong_maps : (rows : List Row) {t n : ℕ} {plane space : List ℕ} → budget_of rows ≡ Some t → locales_of rows ≡ Some n → grid2_of n rows ≡ Some plane → grid3_of n rows ≡ Some space → maps_of rows ≡ None → first_wrong rows ≡ Some Maps
wrong_maps rows b l g h m = rw (b, l, g, h, m) refl

pub returns-in_default-locales-clause-cause : goal.returns-in_default-locales-clause-cause
returns-in_default-locales-clause-cause c = (c.in_ok-matches.ensures.taken, wrong_locales (found (map (λ w. w.now) c.args.words.now)) {t = c.in-Some.budget} (search rules) (search rules))

pub returns-in_default-grid2-clause-cause : goal.returns-in_default-grid2-clause-cause
returns-in_default-grid2-clause-cause c =
    (c.in_ok-matches.ensures.taken, wrong_grid2 (found (map (λ w. w.now) c.args.words.now)) {t = c.in-Some.budget} {n = c.in-Some-locales.locales} (search rules) (search rules) (search rules))

pub returns-in_default-grid3-clause-cause : goal.returns-in_default-grid3-clause-cause
returns-in_default-grid3-clause-cause c =
    (c.in_ok-matches.ensures.taken, wrong_grid3 (found (map (λ w. w.now) c.args.words.now)) {t = c.in-Some.budget} {n = c.in-Some-locales.locales} {plane = c.in-Some-grid2.grid2} (search rules) (search rules) (search rules) (search rules))

pub returns-in_default-maps-clause-cause : goal.returns-in_default-maps-clause-cause
returns-in_default-maps-clause-cause c =
    (c.in_ok-matches.ensures.taken, wrong_maps (found (map (λ w. w.now) c.args.words.now)) {t = c.in-Some.budget} {n = c.in-Some-locales.locales} {plane = c.in-Some-grid2.grid2} {space = c.in-Some-grid3.grid3} (search rules) (search rules) (search rules) (search rules) (search rules))
