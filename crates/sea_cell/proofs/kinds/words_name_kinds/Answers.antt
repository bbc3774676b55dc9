use Rattle.std.proofs.Common.{◌≡◌, Some, refl}
use Rattle.sea_cell.specs.declared.column.ColKind.{ColKind}
use Rattle.sea_cell.specs.declared.column.ColKind.TheVariants as kind
use Rattle.sea_cell.specs.Kinds.{word_of_kind, kind_of}
use Rattle.sea_cell.proofs.kinds.words_name_kinds.Goals as goal

named : (kind : ColKind) → kind_of (word_of_kind kind) ≡ Some kind
named kind.Text = refl
named kind.LongText = refl
named kind.Number = refl
named kind.Check = refl
named kind.Date = refl
named kind.Select = refl
named kind.Multi = refl
named kind.People = refl
named kind.Link = refl
named kind.Made = refl
named kind.Changed = refl

pub returns : goal.returns
returns c = named
