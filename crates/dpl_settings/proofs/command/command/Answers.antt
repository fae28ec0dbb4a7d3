-- The command that is built has the rules of the command line, one after the other.
use Rattle.std.proofs.Common.{ap, ap₂, codes, Bool, true, false, [], ◌∷◌, Some, ◌≡◌, ◌∙◌}
use Rattle.std.proofs.lemmas.Result.{IfOk-weaker}
use Rattle.clap.specs.Words.{App, Rule, Text, app_of, rule_of, with_rule}
use Rattle.clap.specs.Simple.{app_of_fields, on_top}
use Rattle.clap.specs.declared.builder.action.ArgAction.{ArgAction}
use Rattle.clap.specs.declared.builder.action.ArgAction.TheVariants.{Append, SetTrue}
use Rattle.clap.specs.declared.builder.arg.Arg.{Arg}
use Rattle.dpl_settings.specs.CommandLine.{budget_rule, dpl, dump_rule, file_rule, locales_rule, maps_rule, set_rule}
use Rattle.dpl_settings.proofs.command.command.Goals as goal

-- a rule with the name of its one value, with an action, with a long name, and with a default
abbrev named : Rule → Rule
named r = record r { value_names = 1 }

abbrev does : ArgAction → Rule → Rule
does action r = record r { action = Some action }

abbrev called : Text → Rule → Rule
called name r = record r { long = Some name }

abbrev by_default : Text → Rule → Rule
by_default text r = record r { defaults = text ∷ [] }

-- `dpl` with a version
abbrev versioned : App → App
versioned a = on_top (λ s. record s { has_version = true }) a

abbrev is_global : Arg → Bool
is_global a = a.global

pub returns : goal.returns
returns c =
    let file_is : rule_of c.help-file.result ≡ file_rule =
    ap rule_of c.help-file.ensures ∙ ap rule_of c.value_name.ensures ∙ ap named c.new.ensures.rule in
    let file_local : c.help-file.result.global ≡ false =
    ap is_global c.help-file.ensures ∙ ap is_global c.value_name.ensures ∙ c.new.ensures.optional.1 in
    let set_is : rule_of c.help-set.result ≡ set_rule =
    ap rule_of c.help-set.ensures ∙ ap rule_of c.action.ensures
    ∙ ap (does Append) (ap rule_of c.value_name-2.ensures ∙ ap named c.new-2.ensures.rule) in
    let set_local : c.help-set.result.global ≡ false =
    ap is_global c.help-set.ensures ∙ ap is_global c.action.ensures ∙ ap is_global c.value_name-2.ensures ∙ c.new-2.ensures.optional.1 in
    let budget_is : rule_of c.default_value-budget.result ≡ budget_rule =
    ap rule_of c.default_value-budget.ensures ∙ ap (by_default (codes "16777216")) c.option.ensures.rule in
    let budget_local : c.default_value-budget.result.global ≡ false =
    ap is_global c.default_value-budget.ensures ∙ c.option.ensures.local in
    let locales_is : rule_of c.default_value-locales.result ≡ locales_rule =
    ap rule_of c.default_value-locales.ensures ∙ ap (by_default (codes "1")) c.option-2.ensures.rule in
    let locales_local : c.default_value-locales.result.global ≡ false =
    ap is_global c.default_value-locales.ensures ∙ c.option-2.ensures.local in
    let maps_is : rule_of c.default_value-maps.result ≡ maps_rule =
    ap rule_of c.default_value-maps.ensures ∙ ap (by_default (codes "asis")) c.option-3.ensures.rule in
    let maps_local : c.default_value-maps.result.global ≡ false =
    ap is_global c.default_value-maps.ensures ∙ c.option-3.ensures.local in
    let dump_is : rule_of c.help-dump.result ≡ dump_rule =
    ap rule_of c.help-dump.ensures ∙ ap rule_of c.action-2.ensures
    ∙ ap (does SetTrue) (ap rule_of c.long.ensures ∙ ap (called (codes "dump")) c.new-3.ensures.rule) in
    let dump_local : c.help-dump.result.global ≡ false =
    ap is_global c.help-dump.ensures ∙ ap is_global c.action-2.ensures ∙ ap is_global c.long.ensures ∙ c.new-3.ensures.optional.1 in
    let version_is : app_of c.version.result ≡ dpl =
    ap app_of_fields c.version.ensures ∙ ap versioned c.new-4.ensures.app in
    let dpl_is : app_of c.after_help.result ≡ dpl = ap app_of_fields c.after_help.ensures ∙ ap app_of_fields c.about.ensures ∙ version_is in
    let with_file = c.in_ok-arg.ensures.shape file_local ∙ ap₂ with_rule dpl_is file_is in
    let with_sets = c.in_ok-arg-2.ensures.shape set_local ∙ ap₂ with_rule with_file set_is in
    let with_budget = c.in_ok-arg-3.ensures.shape budget_local ∙ ap₂ with_rule with_sets budget_is in
    let with_locales = c.in_ok-arg-4.ensures.shape locales_local ∙ ap₂ with_rule with_budget locales_is in
    let with_grid2 = c.in_ok-arg-5.ensures.shape c.option-grid2.ensures.local ∙ ap₂ with_rule with_locales c.option-grid2.ensures.rule in
    let with_grid3 = c.in_ok-arg-6.ensures.shape c.option-grid3.ensures.local ∙ ap₂ with_rule with_grid2 c.option-grid3.ensures.rule in
    let with_maps = c.in_ok-arg-7.ensures.shape maps_local ∙ ap₂ with_rule with_grid3 maps_is in
    IfOk-weaker c.arg-8.result _ _ (λ r h. h.shape dump_local ∙ ap₂ with_rule with_maps dump_is) c.arg-8.ensures
