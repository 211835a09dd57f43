-- The files as they are read (01, Files): their bytes. An absent file has none, and so lacks line 1.
use Rattle.std.specs.Prelude.{ℕ, List}

pub record Files : Type 0 where
  pub NET : List ℕ
  pub MOD : List ℕ
  pub STIM : List ℕ

-- the files, by the bytes of each
abbrev pub files_of : List ℕ → List ℕ → List ℕ → Files
files_of net modfile stim = record { NET = net; MOD = modfile; STIM = stim }
