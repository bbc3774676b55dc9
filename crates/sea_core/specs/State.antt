-- What contracts see of a core, and of its disk.
use Rattle.std.specs.Prelude.{ℕ, ◌+◌, List, [], Option, None}
use Rattle.sea_disk.specs.Shown.{Shown}
use Rattle.sea_operation.specs.declared.base.Plain.{Plain}
use Rattle.sea_operation.specs.declared.operation.Entry.{Entry}
use Rattle.sea_record.specs.Record.{record_of}
use Rattle.sea_core.specs.declared.limits.Limits.{Limits}

-- The state of a core.
pub record CoreState (D : Type 0) : Type 0 where
  pub disk : D
  -- the base after all entries that were acknowledged
  pub content : Plain
  -- the base when it was opened
  pub opening : Plain
  -- the entries that were acknowledged since, in order
  pub history : List Entry
  -- the entry in doubt, where there is one: whether its record is found is known once the base is started again
  pub doubt : Option Entry
  -- where a write, a cut or a sync failed since the base was opened, how many calls of the disk had failed then
  pub failed : Option ℕ
  pub limits : Limits
  -- the place of the gate that ends the log
  pub log_end : ℕ

-- What is known of disks of a type: whether they tell their content, what each shows, how many of its calls have failed,
-- and how many of its writing calls.
pub record Known (D : Type 0) : Type 1 where
  pub told : Type 0
  pub shows : D → Shown
  pub faults : D → ℕ
  pub failed : D → ℕ

abbrev pub known : {D : Type 0} → Type 0 → (D → Shown) → (D → ℕ) → (D → ℕ) → Known D
known told shows faults failed = record { told = told; shows = shows; faults = faults; failed = failed }

-- the record of an entry that is the next one
abbrev pub next_record : {D : Type 0} → CoreState D → Entry → List ℕ
next_record core entry = record_of (core.content.version + 1) entry

-- the state of a core that was opened on a disk, with this base and this end of its log
abbrev pub opened : {D : Type 0} → D → Plain → Limits → ℕ → CoreState D
opened disk base limits end = record {
  disk = disk;
  content = base;
  opening = base;
  history = [];
  doubt = None;
  failed = None;
  limits = limits;
  log_end = end;
}
