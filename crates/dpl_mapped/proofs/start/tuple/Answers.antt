-- As many ints as the rank are an index; what breaks no rule are such ints.
use Rattle.std.proofs.Common.{◌≡◌, None, Some, length, map, sym, ap, subst, ◌∙◌, arith}
use Rattle.dpl_tree.specs.View.{exprs_view}
use Rattle.dpl_typed.specs.Lowered.{exprs_leaves}
use Rattle.dpl_typed.specs.Stands.{AreArguments}
use Rattle.dpl_typed.specs.Typed.{part_view}
use Rattle.dpl_mapped.specs.Made.{AreInts}
use Rattle.dpl_mapped.proofs.Tuples.{some-parts, tuple-judged, tuple-made}
use Rattle.dpl_mapped.proofs.start.tuple.Goals as goal

pub ints-requires : goal.ints-requires
ints-requires c =
    some-parts c.args.scopes.now (exprs_view c.args.written.now) c.deref.result.now (ap (map part_view) c.deref.ensures.value ∙ c.in-Ok.ensures.told.0)

pub returns-in-Some-clause-told : goal.returns-in-Some-clause-told
returns-in-Some-clause-told c =
    let parts = c.in-Ok.parts in
    let count : c.len.result ≡ length parts.items = omega (arith, c.len.ensures, parts.ok) in
    tuple-judged c.args.scopes.now c.args.rank c.args.word (exprs_view c.args.written.now) c.deref.result.now c.len.result c.args.first.now c.exprs.new.first c.ints.new.first c.owed_rank.new.first
    (ap (map part_view) c.deref.ensures.value ∙ c.in-Ok.ensures.told.0) c.in-Ok.ensures.told.1 c.in-Ok-ints.ensures.told (count ∙ ap length (sym c.deref.ensures.value)) c.owed_rank.ensures

pub returns-in-Some-clause-node : goal.returns-in-Some-clause-node
returns-in-Some-clause-node c = λ none known simple near.
    let ss = c.args.scopes.now in
    let es = exprs_view c.args.written.now in
    let parts = c.in-Ok.parts in
    let count : c.len.result ≡ length parts.items = omega (arith, c.len.ensures, parts.ok) in
    tuple-made ss c.args.rank c.args.word es c.deref.result.now c.len.result (Some c.in-Some.index) c.args.first.now c.exprs.new.first c.ints.new.first c.owed_rank.new.first
    (ap (map part_view) c.deref.ensures.value ∙ c.in-Ok.ensures.told.0) c.in-Ok.ensures.told.1 c.in-Ok-ints.ensures.told (count ∙ ap length (sym c.deref.ensures.value)) c.owed_rank.ensures
    (subst (AreInts c.deref.result.now) c.in-Some.is c.in-Ok-ints.ensures.node) none known simple
    (subst (λ ps. AreArguments ps (exprs_leaves ss es)) (sym c.deref.ensures.value) (c.in-Ok.ensures.node simple near))

pub returns-clause-told : goal.returns-clause-told
returns-clause-told c =
    let parts = c.in-Ok.parts in
    let count : c.len.result ≡ length parts.items = omega (arith, c.len.ensures, parts.ok) in
    tuple-judged c.args.scopes.now c.args.rank c.args.word (exprs_view c.args.written.now) c.deref.result.now c.len.result c.args.first.now c.exprs.new.first c.ints.new.first c.owed_rank.new.first
    (ap (map part_view) c.deref.ensures.value ∙ c.in-Ok.ensures.told.0) c.in-Ok.ensures.told.1 c.in-Ok-ints.ensures.told (count ∙ ap length (sym c.deref.ensures.value)) c.owed_rank.ensures

pub returns-clause-node : goal.returns-clause-node
returns-clause-node c = λ none known simple near.
    let ss = c.args.scopes.now in
    let es = exprs_view c.args.written.now in
    let parts = c.in-Ok.parts in
    let count : c.len.result ≡ length parts.items = omega (arith, c.len.ensures, parts.ok) in
    tuple-made ss c.args.rank c.args.word es c.deref.result.now c.len.result None c.args.first.now c.exprs.new.first c.ints.new.first c.owed_rank.new.first
    (ap (map part_view) c.deref.ensures.value ∙ c.in-Ok.ensures.told.0) c.in-Ok.ensures.told.1 c.in-Ok-ints.ensures.told (count ∙ ap length (sym c.deref.ensures.value)) c.owed_rank.ensures
    (subst (AreInts c.deref.result.now) c.in-None.is c.in-Ok-ints.ensures.node) none known simple
    (subst (λ ps. AreArguments ps (exprs_leaves ss es)) (sym c.deref.ensures.value) (c.in-Ok.ensures.node simple near))
