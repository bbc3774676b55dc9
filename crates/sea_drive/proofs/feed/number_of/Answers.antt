use Rattle.std.proofs.Common.{rules, ◌≡◌, true}
use Rattle.sea_drive.specs.Feeds.{is_number as is_number_of}
use Rattle.sea_drive.proofs.FeedsLaws.{number_read}
use Rattle.sea_drive.proofs.feed.number_of.Goals as goal

pub returns-in-Err : goal.returns-in-Err
returns-in-Err c =
    let word = c.args.word.now in
    let is : is_number_of word ≡ true = search rules in
    let read = number_read word c.parse.result is c.parse.ensures.value.0 in
    absurd (cc (read, c.in-Err.is))
