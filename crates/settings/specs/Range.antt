-- The ranges of the settings (document 01, "Settings"; M and L: document 02, Job 7), and those of a held packet.
-- Assumes nothing.
use Rattle.std.specs.Prelude.{ℕ, ◌+◌, ◌*◌, Bool, ◌&&◌, leb}
use Rattle.lists.specs.Refusal.{within}
use Rattle.records.specs.Kind.{unit_ok, BLOCK, STATE, is_wide, page_kind, commit_kind, record_length}
use Rattle.settings.specs.declared.Settings.{Settings}
use Rattle.settings.specs.declared.PrimarySettings.{PrimarySettings}
use Rattle.settings.specs.declared.StandbySettings.{StandbySettings}

-- "At most 64 packets are held, each of 1 to 1,514 bytes"
abbrev pub most_packets : ℕ
most_packets = 64

abbrev pub most_packet_bytes : ℕ
most_packet_bytes = 1514

abbrev pub packet_length_ok : ℕ → Bool
packet_length_ok n = within 1 most_packet_bytes n

-- "A held packet gains a port, 0 to 3" (document 02, Job 6)
abbrev pub most_port : ℕ
most_port = 3

abbrev pub port_ok : ℕ → Bool
port_ok n = leb n most_port

-- the last epoch that there is
abbrev pub most_epoch : ℕ
most_epoch = 4294967295

-- M, D, B, S, Q, L, T, at most
abbrev pub most_pages : ℕ
most_pages = 65536

abbrev pub most_blocks : ℕ
most_blocks = 4096

abbrev pub most_allowance : ℕ
most_allowance = 64

abbrev pub most_slots : ℕ
most_slots = 64

abbrev pub most_held : ℕ
most_held = 32768

abbrev pub most_stream : ℕ
most_stream = 536870912

abbrev pub most_patience : ℕ
most_patience = 60000

-- the BLOCK records of an epoch, at most (document 02, Job 9)
abbrev pub most_records : ℕ
most_records = 65535

abbrev pub memory_pages_ok : ℕ → Bool
memory_pages_ok m = within 1 most_pages m

abbrev pub disk_blocks_ok : ℕ → Bool
disk_blocks_ok d = leb d most_blocks

abbrev pub allowance_ok : ℕ → Bool
allowance_ok b = leb b most_allowance

abbrev pub block_slots_ok : ℕ → ℕ → Bool
block_slots_ok b s = within b most_slots s

abbrev pub held_bytes_ok : ℕ → Bool
held_bytes_ok q = leb q most_held

abbrev pub patience_ok : ℕ → Bool
patience_ok t = within 1 most_patience t

-- what a checkpoint has besides its pages: STATE and COMMIT
abbrev pub checkpoint_end : ℕ → (wide : Bool) → ℕ
checkpoint_end u wide = record_length u STATE + record_length u (commit_kind wide)

-- L: room for a checkpoint of every page and every block allowed, each once, with PAGE and COMMIT of the width that M
-- calls for
unfoldable pub least_stream : ℕ → ℕ → ℕ → ℕ
least_stream u m b = m * record_length u (page_kind (is_wide m)) + b * record_length u BLOCK + checkpoint_end u (is_wide m)

abbrev pub stream_ok : ℕ → ℕ → ℕ → ℕ → Bool
stream_ok u m b l = within (least_stream u m b) most_stream l

unfoldable pub settings_ok : Settings → Bool
settings_ok g =
    unit_ok g.u && memory_pages_ok g.m && disk_blocks_ok g.d && allowance_ok g.b && block_slots_ok g.b g.s
    && held_bytes_ok g.q && stream_ok g.u g.m g.b g.l && patience_ok g.t

unfoldable pub primary_settings_ok : PrimarySettings → Bool
primary_settings_ok g =
    unit_ok g.u && memory_pages_ok g.m && disk_blocks_ok g.d && allowance_ok g.b
    && held_bytes_ok g.q && stream_ok g.u g.m g.b g.l

unfoldable pub standby_settings_ok : StandbySettings → Bool
standby_settings_ok g =
    unit_ok g.u && memory_pages_ok g.m && disk_blocks_ok g.d && allowance_ok g.b && block_slots_ok g.b g.s

-- what each end keeps of them
abbrev pub of_primary : Settings → PrimarySettings
of_primary g = record { u = g.u; m = g.m; d = g.d; b = g.b; q = g.q; l = g.l }

abbrev pub of_standby : Settings → StandbySettings
of_standby g = record { u = g.u; m = g.m; d = g.d; b = g.b; s = g.s }
