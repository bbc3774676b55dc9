use Rattle.sea_disk.specs.declared.file.File.{File}
use Rattle.sea_disk.specs.Traced.{track_of, left_by}
use Rattle.sea_disk.proofs.Images.{laid_in_turn, laid_seen, laid_settled, laid_image}
use Rattle.sea_disk.proofs.history.History.image.Goals as goal

pub returns-clause-chosen : goal.returns-clause-chosen
returns-clause-chosen c =
    let bytes = λ (file : File). left_by c.args.choice (track_of c.args.self.now.calls file) in
    laid_seen bytes c.lay-5.new.self.calls (laid_in_turn bytes c.new-image.result.calls c.lay.new.self.calls c.lay-2.new.self.calls c.lay-3.new.self.calls c.lay-4.new.self.calls c.lay-5.new.self.calls c.new-image.ensures c.in_ok-lay.ensures c.in_ok-lay-2.ensures c.in_ok-lay-3.ensures c.in_ok-lay-4.ensures c.in_ok-lay-5.ensures)

pub returns-clause-image : goal.returns-clause-image
returns-clause-image c =
    let bytes = λ (file : File). left_by c.args.choice (track_of c.args.self.now.calls file) in
    laid_image c.args.choice c.args.self.now.calls c.lay-5.new.self.calls (laid_in_turn bytes c.new-image.result.calls c.lay.new.self.calls c.lay-2.new.self.calls c.lay-3.new.self.calls c.lay-4.new.self.calls c.lay-5.new.self.calls c.new-image.ensures c.in_ok-lay.ensures c.in_ok-lay-2.ensures c.in_ok-lay-3.ensures c.in_ok-lay-4.ensures c.in_ok-lay-5.ensures)

pub returns-clause-settled : goal.returns-clause-settled
returns-clause-settled c =
    let bytes = λ (file : File). left_by c.args.choice (track_of c.args.self.now.calls file) in
    laid_settled bytes c.lay-5.new.self.calls (laid_in_turn bytes c.new-image.result.calls c.lay.new.self.calls c.lay-2.new.self.calls c.lay-3.new.self.calls c.lay-4.new.self.calls c.lay-5.new.self.calls c.new-image.ensures c.in_ok-lay.ensures c.in_ok-lay-2.ensures c.in_ok-lay-3.ensures c.in_ok-lay-4.ensures c.in_ok-lay-5.ensures)
