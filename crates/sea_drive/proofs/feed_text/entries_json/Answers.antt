use Rattle.std.proofs.Common.{◌+◌, List, [], ◌∷◌, ◌++◌, map, take, ap, sym, ◌∙◌}
use Rattle.serde_json.specs.View.{view}
use Rattle.serde_json.specs.Data.{Data}
use Rattle.sea_operation.specs.declared.operation.Entry.{Entry}
use Rattle.sea_drive.specs.Fed.{entries_json as entries_json_of, entry_json as entry_json_of}
use Rattle.sea_drive.proofs.FeedLaws.{entries_next, map_push}
use Rattle.sea_drive.proofs.feed_text.entries_json.Goals as goal

pub loop-at-preserved : goal.loop-at-preserved
loop-at-preserved c =
    let first = c.args.first in
    let at = c.loop-at.at in
    let item = c.in_ok-entry_json.field-0 in
    let pushed = ap (map view) c.in_ok-push.ensures.items ∙ map_push view c.loop-at.items.items item in
    let shown = c.in_ok-entry_json.ensures ∙ ap (λ (entry : Entry). entry_json_of (first + at) entry) c.get.ensures in
    let next = entries_next first c.args.entries.now at c.index-entries-at.result c.loop-at-test.true c.index-entries-at.is in
    pushed ∙ ap (λ (items : List Data). items ++ view item ∷ []) c.loop-at.invariant ∙ ap (λ (json : Data). entries_json_of first (take at c.args.entries.now) ++ json ∷ []) shown ∙ sym next
