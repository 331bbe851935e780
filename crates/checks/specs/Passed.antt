-- What the checks of a call establish of its arguments where none refuses. The functions that do a call's work ask for these, and the call
-- shows them once. Assumes nothing.
use Rattle.std.specs.Prelude.{◌≡◌, true, List, ℕ, ◌≤◌, length}
use Rattle.sizes.specs.Sizes.{known, family_of}
use Rattle.stamp.specs.Front.{stamp_of}
use Rattle.files.specs.Message.{item_count, Sound}
use Rattle.files.specs.TagFile.{file_size, count_of, head_of, Formed}
use Rattle.tagging.specs.Tagging.{tag_head}

-- Tag
pub record Taggable (keys : List ℕ) (c : ℕ) (s : List ℕ) (room : ℕ) : Type 0 where
  pub keys48 : length keys ≡ 48
  pub code : known c ≡ true
  pub message : Sound s
  pub low : 1 ≤ item_count s
  pub high : item_count s ≤ (family_of c).items
  pub fits : file_size (tag_head c s) ≤ room

-- Verify, and the files of a Report
pub record Comparable (keys s f : List ℕ) : Type 0 where
  pub keys48 : length keys ≡ 48
  pub message : Sound s
  pub file : Formed f
  pub counts : item_count s ≡ count_of f
  pub numbers : (stamp_of s).number ≡ (stamp_of f).number

-- Report
pub record Reportable (keys s f : List ℕ) (room : ℕ) : Type 0 where
  pub files : Comparable keys s f
  pub fits : item_count s ≤ room

-- Replace
pub record Replaceable (keys f : List ℕ) (j : ℕ) (old new : List ℕ) (room : ℕ) : Type 0 where
  pub keys48 : length keys ≡ 48
  pub file : Formed f
  pub low : 1 ≤ j
  pub high : j ≤ count_of f
  pub short_old : length old ≤ 1024
  pub short_new : length new ≤ 1024
  pub fits : file_size (head_of f) ≤ room
