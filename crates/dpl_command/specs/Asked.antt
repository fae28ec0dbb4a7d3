-- By which settings a run is: those that the command line asks for, each under the name that the run has for it.
use Rattle.dpl_settings.specs.declared.asked.Settings.{Settings}
use Rattle.dpl_settings.specs.declared.maps.RootMaps.{RootMaps}
use Rattle.dpl_settings.specs.declared.maps.RootMaps.TheVariants as asked
use Rattle.dpl_layout.specs.declared.maps.Maps.{Maps}
use Rattle.dpl_layout.specs.declared.maps.Maps.TheVariants.{AsIs, Block, Cyclic}
use Rattle.dpl_outcome.specs.Settings.{Settings as RunSettings}

abbrev pub maps_of : RootMaps → Maps
maps_of asked.AsIs = AsIs
maps_of asked.Block = Block
maps_of asked.Cyclic = Cyclic

-- the settings that are asked for, with so many tries of a blocked cell
abbrev pub settings_of : Settings → RunSettings
settings_of s = record { locales = s.locales; budget = s.budget; tries = 100000000; grid2 = s.grid2; grid3 = s.grid3; maps = maps_of s.maps }
