-- How much of the files counts: no byte past it changes what is printed (`read_printed`).
use Rattle.std.specs.Prelude.{take}
use Rattle.model.specs.Files.{Files}

-- the bytes that are read of each file: one more than the file may have
abbrev pub first_bytes : Files → Files
first_bytes files = record { NET = take 299082 files.NET; MOD = take 348246 files.MOD; STIM = take 1245147 files.STIM }
