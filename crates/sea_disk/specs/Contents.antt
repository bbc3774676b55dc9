-- The contents of five files, by file.
use Rattle.std.specs.Prelude.{ℕ, List, if◌then◌else◌}
use Rattle.sea_disk.specs.declared.file.File.{File}
use Rattle.sea_disk.specs.declared.file.File.TheVariants.{Base0, Base1, Log0, Log1, Arch}
use Rattle.sea_disk.specs.declared.contents.Contents.{Contents}
use Rattle.sea_disk.specs.Traced.{is_file}

-- the bytes of a file
abbrev pub of_file : Contents → File → List ℕ
of_file contents Base0 = contents.base0
of_file contents Base1 = contents.base1
of_file contents Log0 = contents.log0
of_file contents Log1 = contents.log1
of_file contents Arch = contents.arch

-- the contents with other bytes in a file
abbrev pub with_file : Contents → File → List ℕ → Contents
with_file contents file bytes = record {
  base0 = if is_file file Base0 then bytes else contents.base0;
  base1 = if is_file file Base1 then bytes else contents.base1;
  log0 = if is_file file Log0 then bytes else contents.log0;
  log1 = if is_file file Log1 then bytes else contents.log1;
  arch = if is_file file Arch then bytes else contents.arch;
}
