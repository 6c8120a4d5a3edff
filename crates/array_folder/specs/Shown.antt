-- What is said of a file or folder.
use Rattle.std.specs.Prelude.{⊤, chars, string_bytes}
use Rattle.std.specs.List.{All}
use Rattle.array_fields.specs.Printed.{IsPrinted}
use Rattle.array_folder.specs.declared.folder_error.FolderError.{FolderError}
use Rattle.array_folder.specs.declared.folder_error.FolderError.TheVariants.{Folder, System}

-- a path that is shown holds nothing that acts on a terminal
abbrev pub IsPathPrinted : FolderError → Type 0
IsPathPrinted (System path error) = All IsPrinted (chars (string_bytes path))
IsPathPrinted (Folder path error) = All IsPrinted (chars (string_bytes path))
IsPathPrinted other = ⊤
