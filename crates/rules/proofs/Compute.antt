-- Every definition of the step rules, from lists up, under one name, for the `unfolding` line of what is proved by computing:
-- to unfold a name is to unfold what its own line names. Assumes nothing.
use Rattle.lists.specs.Part.{part, put, removed, freed}
use Rattle.lists.specs.Select.{selected, place_of}
use Rattle.lists.specs.Page.{page, with_page, gather}
use Rattle.lists.specs.LittleEndian.{le_bytes, le_at}
use Rattle.records.specs.Kind.{unit_ok, body_length, record_length}
use Rattle.records.specs.Read.{fields_of, read_record}
use Rattle.records.specs.Write.{frame, unit_record, state_record, commit_record, epoch_record}
use Rattle.records.specs.Area.{all_zero, area_of}
use Rattle.settings.specs.Range.{least_stream, settings_ok, primary_settings_ok, standby_settings_ok}
use Rattle.marks.specs.Mark.{bit, with_bit, mark_bit, marked, with_mark, cleared, count_marks}
use Rattle.pages.specs.Dirty.{dirty_record, dirty_records, installed_page, installed}
use Rattle.sums.specs.Sum.{weighted, sum_over, names_each}
use Rattle.queue.specs.Held.{packets_ok, sum_lengths, epochs_ok, queue_ok, added, added_bytes, packet_bytes, without_packet, without_packet_bytes}
use Rattle.staging.specs.Slot.{numbers_ok, slots_ok, slot_for, with_block, with_block_bytes, all_due, only_due, stored, flushed, flushed_bytes}
use Rattle.detector.specs.Tick.{ticked}
use Rattle.detector.specs.Range.{detector_ok}
use Rattle.pages.specs.Write.{written}
use Rattle.rules.specs.PrimaryState.{primary_ok}
use Rattle.rules.specs.StandbyState.{standby_ok}
use Rattle.rules.specs.PrimaryWrites.{memory_write_refusal, memory_write_reply, memory_write_memory, memory_write_dirty, disk_write_refusal, disk_write_state, disk_write_reply, disk_write_disk, disk_write_stream}
use Rattle.rules.specs.Packets.{packet_refusal, packet_reply, packet_held, take_refusal, take_reply, take_held, take_destination}
use Rattle.rules.specs.Checkpoint.{checkpoint_length, checkpoint_bytes, checkpoint_refusal, checkpoint_state, checkpoint_reply, checkpoint_dirty, checkpoint_stream}
use Rattle.rules.specs.Stream.{drain_refusal, drain_reply, drain_stream, drain_destination, ack_judged, ack_reply}
use Rattle.rules.specs.PrimaryTick.{primary_tick_refusal, primary_tick_state, primary_tick_reply}
use Rattle.rules.specs.Judge.{read_lent_ok, page_refusal, block_refusal, state_refusal, commit_refusal, judged}
use Rattle.rules.specs.Read.{read_reply, read_memory, read_staged_pages, read_staged_marks, read_staged_blocks, read_reply_bytes}
use Rattle.rules.specs.Flush.{flush_refusal, flush_reply, flush_staged_blocks, flush_disk}
use Rattle.rules.specs.Takeover.{standby_tick_refusal, standby_tick_state, standby_tick_reply, standby_tick_marks, activation_refusal, activation_reply, activation_area, active_memory_write_refusal, active_memory_write_reply, active_memory_write_memory, active_disk_write_refusal, active_disk_write_reply, active_disk_write_disk}
use Rattle.rules.specs.Sums.{primary_sum_refusal, primary_sum_reply, standby_sum_refusal, standby_sum_reply}
use Rattle.rules.specs.Start.{start_lent_ok, start_refusal, started, start_copy, start_marks, start_area}
use Rattle.rules.specs.Choose.{choice_of}
use Rattle.rules.specs.World.{start_world}
use Rattle.rules.specs.Step.{step}

unfoldable list_rules : Unit {0}
unfolding part put removed freed selected place_of page with_page gather le_bytes le_at
list_rules = tt

unfoldable record_rules : Unit {0}
unfolding unit_ok body_length record_length fields_of read_record frame unit_record state_record commit_record epoch_record all_zero area_of
record_rules = tt

unfoldable part_rules : Unit {0}
unfolding least_stream settings_ok primary_settings_ok standby_settings_ok bit with_bit mark_bit marked with_mark cleared count_marks dirty_record dirty_records installed_page installed weighted sum_over names_each packets_ok sum_lengths epochs_ok queue_ok added added_bytes packet_bytes without_packet without_packet_bytes numbers_ok slots_ok slot_for with_block with_block_bytes all_due only_due stored flushed flushed_bytes ticked
part_rules = tt

unfoldable primary_rules : Unit {0}
unfolding detector_ok primary_ok memory_write_refusal memory_write_reply written memory_write_memory memory_write_dirty disk_write_refusal disk_write_state disk_write_reply disk_write_disk disk_write_stream packet_refusal packet_reply packet_held take_refusal take_reply take_held take_destination checkpoint_length checkpoint_bytes checkpoint_refusal checkpoint_state checkpoint_reply checkpoint_dirty checkpoint_stream drain_refusal drain_reply drain_stream drain_destination ack_judged ack_reply primary_tick_refusal primary_tick_state primary_tick_reply primary_sum_refusal primary_sum_reply
primary_rules = tt

unfoldable standby_rules : Unit {0}
unfolding standby_ok read_lent_ok page_refusal block_refusal state_refusal commit_refusal judged read_reply read_memory read_staged_pages read_staged_marks read_staged_blocks read_reply_bytes flush_refusal flush_reply flush_staged_blocks flush_disk standby_tick_refusal standby_tick_state standby_tick_reply standby_tick_marks activation_refusal activation_reply activation_area active_memory_write_refusal active_memory_write_reply active_memory_write_memory active_disk_write_refusal active_disk_write_reply active_disk_write_disk standby_sum_refusal standby_sum_reply
standby_rules = tt

unfoldable world_rules : Unit {0}
unfolding start_lent_ok start_refusal started start_copy start_marks start_area choice_of start_world step
world_rules = tt

unfoldable pub all_rules : Unit {0}
unfolding list_rules record_rules part_rules primary_rules standby_rules world_rules
all_rules = tt
