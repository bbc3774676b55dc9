-- What a disk shows that tells no content. No clause speaks of it.
use Rattle.std.specs.Prelude.{◌≡◌, [], refl}
use Rattle.sea_disk.specs.declared.file.File.{File}
use Rattle.sea_disk.specs.Shown.{Shown, IsDisk}

abbrev pub untold : Shown
untold = record { seen = λ _. []; image = λ _ bytes. bytes ≡ []; moment = 0; since = λ _ files. (file : File) → files file ≡ [] }

abbrev pub untold_is_disk : IsDisk untold
untold_is_disk = record { seen_may_stay = λ _. refl; counts_now = λ _ files _ image. image; only_now = λ files was. was }
