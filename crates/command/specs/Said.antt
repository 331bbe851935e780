-- The lines that the command prints beside the report program's, and the name of a file that is not whole yet. Assumes nothing.
use Rattle.std.specs.Prelude.{List, ◌++◌, ℕ, eqb, if◌then◌else◌}
use Rattle.sizes.specs.Sizes.{family_of}
use Rattle.files.specs.TagFile.{stamp_for, head_for, file_size}
use Rattle.printing.specs.Text.{ascii, labelled}

-- how many cards a message has
unfoldable pub count_line : ℕ → List ℕ
count_line n = labelled "cards " n ++ ascii "\n"

-- and which number
unfoldable pub message_line : ℕ → ℕ → List ℕ
message_line n number = labelled "cards " n ++ labelled " number " number ++ ascii "\n"

-- how the line of a card of so many bytes ends: one of none is a vacant place (document 02, 2.5)
unfoldable pub item_end : ℕ → List ℕ
item_end long = if eqb long 0 then ascii " vacant\n" else ascii "\n"

-- card j and how many bytes it has
unfoldable pub item_line : ℕ → ℕ → List ℕ
item_line j long = labelled "card " j ++ labelled " bytes " long ++ item_end long

-- how many cards a size has at most, its tags and its limit
unfoldable pub family_part : ℕ → List ℕ
family_part c = labelled " cards " (family_of c).items ++ labelled " tags " (family_of c).tags ++ labelled " limit " (family_of c).limit

-- how many bytes its tag files have that are made anew: that of a full message, with number 0, like all others
unfoldable pub new_size : ℕ → ℕ
new_size c = file_size (head_for (stamp_for 0) c (family_of c).items)

-- a size code and these numbers
unfoldable pub size_line : ℕ → List ℕ
size_line c = labelled "size " c ++ family_part c ++ labelled " bytes " (new_size c) ++ ascii "\n"

-- the name under which a file is written until it is whole: a dot, the process number and `.new` behind its own
unfoldable pub temporary_name : List ℕ → ℕ → List ℕ
temporary_name name process = name ++ labelled "." process ++ ascii ".new"
