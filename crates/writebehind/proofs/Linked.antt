-- What a link of this crate and those below it needs, and that it finds the functions that other crates call.
use mathlib.Core.Bool.{true}
use prog.Linked.{Tree, World, Holds, in_world}
use prog.LinkedThreads.{HasT}
use Rattle.writebehind.proofs.TheLink as link
use Rattle.record.proofs.Linked as b0
use Rattle.record_reader.proofs.Linked as b1
use Rattle.returned.proofs.Linked as b2
use Rattle.session_cut.proofs.Linked as b3
use Rattle.session_forder.proofs.Linked as b4
use Rattle.session_fsync.proofs.Linked as b5
use Rattle.session_length.proofs.Linked as b6
use Rattle.session_list.proofs.Linked as b7
use Rattle.session_lookup.proofs.Linked as b8
use Rattle.session_make.proofs.Linked as b9
use Rattle.session_mount.proofs.Linked as b10
use Rattle.session_push.proofs.Linked as b11
use Rattle.session_read.proofs.Linked as b12
use Rattle.session_remove.proofs.Linked as b13
use Rattle.session_rename.proofs.Linked as b14
use Rattle.session_renew.proofs.Linked as b15
use Rattle.session_stat.proofs.Linked as b16
use Rattle.session_take.proofs.Linked as b17
use Rattle.session_write.proofs.Linked as b18
use Rattle.buffer.proofs.Linked as b19
use Rattle.writebehind.proofs.wb_create.Symbol as s-wb_create
use Rattle.writebehind.proofs.wb_cut.Symbol as s-wb_cut
use Rattle.writebehind.proofs.wb_forder.Symbol as s-wb_forder
use Rattle.writebehind.proofs.wb_format.Symbol as s-wb_format
use Rattle.writebehind.proofs.wb_fsync.Symbol as s-wb_fsync
use Rattle.writebehind.proofs.wb_list.Symbol as s-wb_list
use Rattle.writebehind.proofs.wb_lookup.Symbol as s-wb_lookup
use Rattle.writebehind.proofs.wb_mkdir.Symbol as s-wb_mkdir
use Rattle.writebehind.proofs.wb_mount.Symbol as s-wb_mount
use Rattle.writebehind.proofs.wb_push.Symbol as s-wb_push
use Rattle.writebehind.proofs.wb_read.Symbol as s-wb_read
use Rattle.writebehind.proofs.wb_record.Symbol as s-wb_record
use Rattle.writebehind.proofs.wb_remove_directory.Symbol as s-wb_remove_directory
use Rattle.writebehind.proofs.wb_remove_file.Symbol as s-wb_remove_file
use Rattle.writebehind.proofs.wb_rename.Symbol as s-wb_rename
use Rattle.writebehind.proofs.wb_renew.Symbol as s-wb_renew
use Rattle.writebehind.proofs.wb_setlen.Symbol as s-wb_setlen
use Rattle.writebehind.proofs.wb_stat.Symbol as s-wb_stat
use Rattle.writebehind.proofs.wb_take.Symbol as s-wb_take
use Rattle.writebehind.proofs.wb_write.Symbol as s-wb_write
pub use Rattle.session_renew.proofs.Linked.{table-buffer, Needs-buffer, needs-buffer, table-returned, Needs-returned, needs-returned, table-names, Needs-names, needs-names, table-volume_entry, Needs-volume_entry, needs-volume_entry, table-volume_tree, Needs-volume_tree, needs-volume_tree, table-record, Needs-record, needs-record, table-log_slots, Needs-log_slots, needs-log_slots, table-log_find, Needs-log_find, needs-log_find, table-session_losses, Needs-session_losses, needs-session_losses, table-record_valid, Needs-record_valid, needs-record_valid, table-record_reader, Needs-record_reader, needs-record_reader, table-log_form, Needs-log_form, needs-log_form, table-volume_questions, Needs-volume_questions, needs-volume_questions, table-volume_unique, Needs-volume_unique, needs-volume_unique, table-volume_entry_form, Needs-volume_entry_form, needs-volume_entry_form, table-volume_form, Needs-volume_form, needs-volume_form, table-session_admission, Needs-session_admission, needs-session_admission, table-log_compact, Needs-log_compact, needs-log_compact, table-volume_applies, Needs-volume_applies, needs-volume_applies, table-log_take, Needs-log_take, needs-log_take, table-session_renew, Needs-session_renew, needs-session_renew}
pub use Rattle.session_take.proofs.Linked.{table-session_take, Needs-session_take, needs-session_take}
pub use Rattle.session_cut.proofs.Linked.{table-log_discard, Needs-log_discard, needs-log_discard, table-volume_write, Needs-volume_write, needs-volume_write, table-session_cut, Needs-session_cut, needs-session_cut}
pub use Rattle.session_fsync.proofs.Linked.{table-volume, Needs-volume, needs-volume, table-log_send, Needs-log_send, needs-log_send, table-log_push, Needs-log_push, needs-log_push, table-log_operands, Needs-log_operands, needs-log_operands, table-log_touch, Needs-log_touch, needs-log_touch, table-log_dependence, Needs-log_dependence, needs-log_dependence, table-log_order, Needs-log_order, needs-log_order, table-log_fsync, Needs-log_fsync, needs-log_fsync, table-session_fsync, Needs-session_fsync, needs-session_fsync}
pub use Rattle.session_push.proofs.Linked.{table-session_push, Needs-session_push, needs-session_push}
pub use Rattle.session_forder.proofs.Linked.{table-log_draft, Needs-log_draft, needs-log_draft, table-session_change, Needs-session_change, needs-session_change, table-record_writer, Needs-record_writer, needs-record_writer, table-log_issue, Needs-log_issue, needs-log_issue, table-session_forder, Needs-session_forder, needs-session_forder}
pub use Rattle.session_length.proofs.Linked.{table-session_length, Needs-session_length, needs-session_length}
pub use Rattle.session_write.proofs.Linked.{table-session_operations, Needs-session_operations, needs-session_operations, table-session_write, Needs-session_write, needs-session_write}
pub use Rattle.session_rename.proofs.Linked.{table-session_names, Needs-session_names, needs-session_names, table-session_rename, Needs-session_rename, needs-session_rename}
pub use Rattle.session_remove.proofs.Linked.{table-session_remove, Needs-session_remove, needs-session_remove}
pub use Rattle.session_make.proofs.Linked.{table-session_make, Needs-session_make, needs-session_make}
pub use Rattle.session_read.proofs.Linked.{table-session_questions, Needs-session_questions, needs-session_questions, table-session_read, Needs-session_read, needs-session_read}
pub use Rattle.session_stat.proofs.Linked.{table-session_stat, Needs-session_stat, needs-session_stat}
pub use Rattle.session_list.proofs.Linked.{table-session_list, Needs-session_list, needs-session_list}
pub use Rattle.session_lookup.proofs.Linked.{table-paths, Needs-paths, needs-paths, table-volume_lookup, Needs-volume_lookup, needs-volume_lookup, table-session_lookup, Needs-session_lookup, needs-session_lookup}
pub use Rattle.session_mount.proofs.Linked.{table-session_mount, Needs-session_mount, needs-session_mount}

-- the crate's table
pub table-writebehind : Tree
table-writebehind = link.table

-- a world that has it, and those of the crates below
pub Needs-writebehind : World → Type 0
Needs-writebehind W = Holds W "writebehind" table-writebehind × b0.Needs-record W × b1.Needs-record_reader W × b2.Needs-returned W × b3.Needs-session_cut W × b4.Needs-session_forder W × b5.Needs-session_fsync W × b6.Needs-session_length W × b7.Needs-session_list W × b8.Needs-session_lookup W × b9.Needs-session_make W × b10.Needs-session_mount W × b11.Needs-session_push W × b12.Needs-session_read W × b13.Needs-session_remove W × b14.Needs-session_rename W × b15.Needs-session_renew W × b16.Needs-session_stat W × b17.Needs-session_take W × b18.Needs-session_write W × b19.Needs-buffer W × Unit {0}

pub needs-writebehind : (W : World) → Holds W "writebehind" table-writebehind → b0.Needs-record W → b1.Needs-record_reader W → b2.Needs-returned W → b3.Needs-session_cut W → b4.Needs-session_forder W → b5.Needs-session_fsync W → b6.Needs-session_length W → b7.Needs-session_list W → b8.Needs-session_lookup W → b9.Needs-session_make W → b10.Needs-session_mount W → b11.Needs-session_push W → b12.Needs-session_read W → b13.Needs-session_remove W → b14.Needs-session_rename W → b15.Needs-session_renew W → b16.Needs-session_stat W → b17.Needs-session_take W → b18.Needs-session_write W → b19.Needs-buffer W → Needs-writebehind W
unfolding Needs-writebehind
needs-writebehind W h n0 n1 n2 n3 n4 n5 n6 n7 n8 n9 n10 n11 n12 n13 n14 n15 n16 n17 n18 n19 = (h, n0, n1, n2, n3, n4, n5, n6, n7, n8, n9, n10, n11, n12, n13, n14, n15, n16, n17, n18, n19, tt)

below : (W : World) → Needs-writebehind W → link.Below W
unfolding Needs-writebehind
below W n = (b0.linked-kind-Kind-code W n.1, (b1.linked-read_record W n.2, (b2.linked-CodeFromResultUnitRefusal-from W n.3, (b2.linked-Refusal-number W n.3, (b2.linked-ValueFromResultUsizeRefusal-from W n.3, (b3.linked-cut W n.4, (b4.linked-forder W n.5, (b5.linked-fsync W n.6, (b6.linked-set_length W n.7, (b7.linked-list W n.8, (b8.linked-lookup W n.9, (b9.linked-create W n.10, (b9.linked-make_directory W n.10, (b10.linked-format W n.11, (b10.linked-mount W n.11, (b11.linked-push W n.12, (b12.linked-read W n.13, (b13.linked-remove_directory W n.14, (b13.linked-remove_file W n.14, (b14.linked-rename W n.15, (b15.linked-renew W n.16, (b16.linked-stat W n.17, (b16.linked-status_of W n.17, (b17.linked-take W n.18, (b18.linked-write-write W n.19, tt)))))))))))))))))))))))))

pub linked-wb_create : (W : World) → Needs-writebehind W → HasT (in_world W) true s-wb_create.code
unfolding Needs-writebehind table-writebehind
linked-wb_create W n = link.linked-writebehind::wb_create W n.0 (below W n)

pub linked-wb_cut : (W : World) → Needs-writebehind W → HasT (in_world W) true s-wb_cut.code
unfolding Needs-writebehind table-writebehind
linked-wb_cut W n = link.linked-writebehind::wb_cut W n.0 (below W n)

pub linked-wb_forder : (W : World) → Needs-writebehind W → HasT (in_world W) true s-wb_forder.code
unfolding Needs-writebehind table-writebehind
linked-wb_forder W n = link.linked-writebehind::wb_forder W n.0 (below W n)

pub linked-wb_format : (W : World) → Needs-writebehind W → HasT (in_world W) true s-wb_format.code
unfolding Needs-writebehind table-writebehind
linked-wb_format W n = link.linked-writebehind::wb_format W n.0 (below W n)

pub linked-wb_fsync : (W : World) → Needs-writebehind W → HasT (in_world W) true s-wb_fsync.code
unfolding Needs-writebehind table-writebehind
linked-wb_fsync W n = link.linked-writebehind::wb_fsync W n.0 (below W n)

pub linked-wb_list : (W : World) → Needs-writebehind W → HasT (in_world W) true s-wb_list.code
unfolding Needs-writebehind table-writebehind
linked-wb_list W n = link.linked-writebehind::wb_list W n.0 (below W n)

pub linked-wb_lookup : (W : World) → Needs-writebehind W → HasT (in_world W) true s-wb_lookup.code
unfolding Needs-writebehind table-writebehind
linked-wb_lookup W n = link.linked-writebehind::wb_lookup W n.0 (below W n)

pub linked-wb_mkdir : (W : World) → Needs-writebehind W → HasT (in_world W) true s-wb_mkdir.code
unfolding Needs-writebehind table-writebehind
linked-wb_mkdir W n = link.linked-writebehind::wb_mkdir W n.0 (below W n)

pub linked-wb_mount : (W : World) → Needs-writebehind W → HasT (in_world W) true s-wb_mount.code
unfolding Needs-writebehind table-writebehind
linked-wb_mount W n = link.linked-writebehind::wb_mount W n.0 (below W n)

pub linked-wb_push : (W : World) → Needs-writebehind W → HasT (in_world W) true s-wb_push.code
unfolding Needs-writebehind table-writebehind
linked-wb_push W n = link.linked-writebehind::wb_push W n.0 (below W n)

pub linked-wb_read : (W : World) → Needs-writebehind W → HasT (in_world W) true s-wb_read.code
unfolding Needs-writebehind table-writebehind
linked-wb_read W n = link.linked-writebehind::wb_read W n.0 (below W n)

pub linked-wb_record : (W : World) → Needs-writebehind W → HasT (in_world W) true s-wb_record.code
unfolding Needs-writebehind table-writebehind
linked-wb_record W n = link.linked-writebehind::wb_record W n.0 (below W n)

pub linked-wb_remove_directory : (W : World) → Needs-writebehind W → HasT (in_world W) true s-wb_remove_directory.code
unfolding Needs-writebehind table-writebehind
linked-wb_remove_directory W n = link.linked-writebehind::wb_remove_directory W n.0 (below W n)

pub linked-wb_remove_file : (W : World) → Needs-writebehind W → HasT (in_world W) true s-wb_remove_file.code
unfolding Needs-writebehind table-writebehind
linked-wb_remove_file W n = link.linked-writebehind::wb_remove_file W n.0 (below W n)

pub linked-wb_rename : (W : World) → Needs-writebehind W → HasT (in_world W) true s-wb_rename.code
unfolding Needs-writebehind table-writebehind
linked-wb_rename W n = link.linked-writebehind::wb_rename W n.0 (below W n)

pub linked-wb_renew : (W : World) → Needs-writebehind W → HasT (in_world W) true s-wb_renew.code
unfolding Needs-writebehind table-writebehind
linked-wb_renew W n = link.linked-writebehind::wb_renew W n.0 (below W n)

pub linked-wb_setlen : (W : World) → Needs-writebehind W → HasT (in_world W) true s-wb_setlen.code
unfolding Needs-writebehind table-writebehind
linked-wb_setlen W n = link.linked-writebehind::wb_setlen W n.0 (below W n)

pub linked-wb_stat : (W : World) → Needs-writebehind W → HasT (in_world W) true s-wb_stat.code
unfolding Needs-writebehind table-writebehind
linked-wb_stat W n = link.linked-writebehind::wb_stat W n.0 (below W n)

pub linked-wb_take : (W : World) → Needs-writebehind W → HasT (in_world W) true s-wb_take.code
unfolding Needs-writebehind table-writebehind
linked-wb_take W n = link.linked-writebehind::wb_take W n.0 (below W n)

pub linked-wb_write : (W : World) → Needs-writebehind W → HasT (in_world W) true s-wb_write.code
unfolding Needs-writebehind table-writebehind
linked-wb_write W n = link.linked-writebehind::wb_write W n.0 (below W n)
