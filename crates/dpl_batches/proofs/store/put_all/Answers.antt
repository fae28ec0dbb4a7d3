-- Each store has room, as all have.
-- These are the answers to the goals of `put_all`.
use Rattle.std.proofs.Common.{◌<◌, length, Some, sym, ap, ◌∙◌, rules}
use Rattle.std.proofs.lemmas.Option.{slice_get-get_or}
use Rattle.dpl_batches.proofs.Stores.{room-at}
use Rattle.dpl_batches.proofs.store.put_all.Goals as goal

pub put-requires-clause-room : goal.put-requires-clause-room
put-requires-clause-room g c =
    let xs = c.args.stores.now in
    let k = c.loop-k.k in
    let x = c.index-stores-k.result in
    let below : k < length xs = search rules in
    room-at xs k x (slice_get-get_or xs k x below ∙ ap Some (sym c.index-stores-k.is)) c.requires.room
