-- The numbers of document 01, "Numbers from the input" and "Numbers from the state", and of document 02, by name.
-- Assumes nothing.
use Rattle.std.specs.Prelude.{ℕ, Result, Ok, Err}
use Rattle.records.specs.declared.refusal.Refusal.{Refusal}
use Rattle.records.specs.declared.refusal.Refusal.TheVariants.{OutOfRange, NoSuchUnit, BadSize, BadPacket, NoRoom, BadKind, BadLength, BadEpoch, OutOfOrder, BadCounts, BadAck, BadArea, WrongMode, AllowanceUsed, StreamFull, QueueFull, SlotsFull, NothingFree, LastEpoch, BlocksDue, NoSuchPort, NoPlan, BytesBehind, DestinationShort}

-- a setting, a lent length, or a state outside its ranges
abbrev pub out_of_range : ℕ
out_of_range = 1

-- page number not below M, block not below D
abbrev pub no_such_unit : ℕ
no_such_unit = 2

-- a memory write empty or past its page, block data not U bytes
abbrev pub bad_size : ℕ
bad_size = 3

-- packet length
abbrev pub bad_packet : ℕ
bad_packet = 4

-- reply buffer under 8, or destination shorter than the packet
abbrev pub no_room : ℕ
no_room = 5

-- kind not for this end, or for a file
abbrev pub bad_kind : ℕ
bad_kind = 6

-- length not the kind's
abbrev pub bad_length : ℕ
bad_length = 7

-- epoch not the last received plus 1; in a file, an epoch unlike the first record's (document 02, Jobs 10 and 14)
abbrev pub bad_epoch : ℕ
bad_epoch = 8

-- BLOCK after PAGE or STATE, PAGE not above the last or after STATE, second STATE, COMMIT without STATE
abbrev pub out_of_order : ℕ
out_of_order = 9

-- counts differ from those received
abbrev pub bad_counts : ℕ
bad_counts = 10

-- ACK not above the acknowledged epoch or not below the open one
abbrev pub bad_ack : ℕ
bad_ack = 11

-- record area neither zero nor a record
abbrev pub bad_area : ℕ
bad_area = 12

-- checkpoint or ACK when alone, a record when not receiving, activation when not taking over, a guest write at a
-- standby not active
abbrev pub wrong_mode : ℕ
wrong_mode = 13

-- the epoch already has B different blocks and this is another, or it has 65,535 BLOCK records (document 02, Job 9)
abbrev pub allowance_used : ℕ
allowance_used = 14

-- the stream lacks the bytes needed
abbrev pub stream_full : ℕ
stream_full = 15

-- 64 packets held, or Q would be passed
abbrev pub queue_full : ℕ
queue_full = 16

-- S blocks staged, none of them this block in this epoch
abbrev pub slots_full : ℕ
slots_full = 17

-- nothing may be handed out
abbrev pub nothing_free : ℕ
nothing_free = 18

-- the open epoch is 4,294,967,295
abbrev pub last_epoch : ℕ
last_epoch = 19

-- blocks still due at activation
abbrev pub blocks_due : ℕ
blocks_due = 20

-- the port is above 3 (document 02, Job 6)
abbrev pub no_such_port : ℕ
no_such_port = 23

-- the interval or the link rate of a trial is 0 (document 02, Job 12)
abbrev pub no_plan : ℕ
no_plan = 27

-- the file holds bytes after its COMMIT (document 02, Job 14)
abbrev pub bytes_behind : ℕ
bytes_behind = 29

-- the destination is too short for the normal form (document 02, Job 14)
abbrev pub destination_short : ℕ
destination_short = 30

-- ---- the number of each refusal of the code
abbrev pub refusal_number : Refusal → ℕ
refusal_number OutOfRange = out_of_range
refusal_number NoSuchUnit = no_such_unit
refusal_number BadSize = bad_size
refusal_number BadPacket = bad_packet
refusal_number NoRoom = no_room
refusal_number BadKind = bad_kind
refusal_number BadLength = bad_length
refusal_number BadEpoch = bad_epoch
refusal_number OutOfOrder = out_of_order
refusal_number BadCounts = bad_counts
refusal_number BadAck = bad_ack
refusal_number BadArea = bad_area
refusal_number WrongMode = wrong_mode
refusal_number AllowanceUsed = allowance_used
refusal_number StreamFull = stream_full
refusal_number QueueFull = queue_full
refusal_number SlotsFull = slots_full
refusal_number NothingFree = nothing_free
refusal_number LastEpoch = last_epoch
refusal_number BlocksDue = blocks_due
refusal_number NoSuchPort = no_such_port
refusal_number NoPlan = no_plan
refusal_number BytesBehind = bytes_behind
refusal_number DestinationShort = destination_short

-- the number of what a test gives: 0 where it passed
abbrev pub number_in : {A : Type 0} → Result A Refusal → ℕ
number_in (Ok a) = 0
number_in (Err refusal) = refusal_number refusal
