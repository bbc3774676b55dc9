-- What files stand for.
use Rattle.std.proofs.Common.{◌≡◌, ℕ, List, subst}
use Rattle.sea_disk.specs.declared.file.File.TheVariants.{Log0}
use Rattle.sea_disk.specs.Shown.{Files}
use Rattle.sea_log.specs.Records.{IsLog}
use Rattle.sea_operation.specs.declared.base.Plain.{Plain}
use Rattle.sea_core.specs.Stands.{Makes, StandsFor}
use Rattle.sea_core.proofs.Making.{HaveOneEntry, one_made}

-- a file holds one list at most
abbrev pub HoldsOneList : Type 0
HoldsOneList = (bytes : List ℕ) (one other : List (List ℕ)) (end place : ℕ) → IsLog bytes one end → IsLog bytes other place → (one ≡ other) × (end ≡ place)

-- files stand for one base at most
pub one_standing : HoldsOneList → HaveOneEntry → (files : Files) (one other : Plain) → StandsFor one files → StandsFor other files → one ≡ other
one_standing unique entry files one other first second =
    let same = (unique (files Log0) first.payloads second.payloads first.log.0 second.log.0 first.log.1 second.log.1).0 in
    one_made entry second.payloads one other (subst (λ payloads. Makes payloads one) same first.makes) second.makes
