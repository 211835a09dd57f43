-- The files whose bytes are lent, as the model has them.
use Rattle.model.specs.Files.{Files, files_of}
use Rattle.file_bytes.specs.declared.FileBytes.{FileBytes}

abbrev pub bytes_of : FileBytes → Files
bytes_of files = files_of files.net.now files.modfile.now files.stim.now
