-- The choice of disk after both boxes fail. Assumes nothing.
use Rattle.std.specs.Prelude.{ℕ, cond, ◌&&◌, List, [], eqb, length, Result, Ok, Err}
use Rattle.records.specs.declared.Area.{Area}
use Rattle.records.specs.declared.Area.TheVariants.{Zero, Activation, Neither}
use Rattle.records.specs.Area.{area_of, area_length}
use Rattle.records.specs.declared.refusal.Refusal.{Refusal}
use Rattle.records.specs.declared.refusal.Refusal.TheVariants.{OutOfRange, BadArea}
use Rattle.records.specs.Number.{number_in}
use Rattle.rules.specs.declared.Disk.{Disk}
use Rattle.rules.specs.declared.Disk.TheVariants.{PrimaryDisk, StandbyDisk}

-- "an all-zero record area means the primary's disk"; "a record of length 4, kind 6 means the standby's"; 12
abbrev pub area_choice : Area → Result Disk Refusal
area_choice Zero = Ok PrimaryDisk
area_choice (Activation epoch) = Ok StandbyDisk
area_choice Neither = Err BadArea

-- 1 12; "the disk choice wants its two disks equally long"
unfoldable pub choice_of : ℕ → ℕ → List ℕ → Result Disk Refusal
choice_of primary standby area =
    cond (eqb primary standby && eqb (length area) area_length) (area_choice (area_of area)) (Err OutOfRange)

abbrev pub choice_number : Result Disk Refusal → ℕ
choice_number choice = number_in choice

-- the disk as a number: 1 the primary's, 2 the standby's, 0 where there is none
abbrev pub disk_of : Result Disk Refusal → ℕ
disk_of (Ok PrimaryDisk) = 1
disk_of (Ok StandbyDisk) = 2
disk_of (Err refusal) = 0

-- "The chosen one of the two lent disks is itself handed back; on 1 or 12 an empty part of the primary's is"
abbrev pub chosen : {A : Type 0} → Result Disk Refusal → A → A → A → A
chosen (Ok PrimaryDisk) primary standby none = primary
chosen (Ok StandbyDisk) primary standby none = standby
chosen (Err refusal) primary standby none = none

abbrev pub chosen_disk : List ℕ → List ℕ → List ℕ → List ℕ
chosen_disk primary standby area = chosen (choice_of (length primary) (length standby) area) primary standby []
