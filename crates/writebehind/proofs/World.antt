-- The tables of all the crates of the entries' code: a world in which a link finds the code of each.
use mathlib.Core.Path.{refl}
use mathlib.Core.List.{[], ◌∷◌}
use lib.Chars.{codes}
use prog.Linked.{World}
use Rattle.writebehind.proofs.Linked.{table-buffer, needs-buffer, Needs-buffer, table-returned, needs-returned, Needs-returned, table-names, needs-names, Needs-names, table-volume_entry, needs-volume_entry, Needs-volume_entry, table-volume_tree, needs-volume_tree, Needs-volume_tree, table-record, needs-record, Needs-record, table-volume_questions, needs-volume_questions, Needs-volume_questions, table-paths, needs-paths, Needs-paths, table-volume_lookup, needs-volume_lookup, Needs-volume_lookup, table-log_slots, needs-log_slots, Needs-log_slots, table-log_find, needs-log_find, Needs-log_find, table-session_losses, needs-session_losses, Needs-session_losses, table-record_valid, needs-record_valid, Needs-record_valid, table-record_reader, needs-record_reader, Needs-record_reader, table-log_form, needs-log_form, Needs-log_form, table-volume_unique, needs-volume_unique, Needs-volume_unique, table-volume_entry_form, needs-volume_entry_form, Needs-volume_entry_form, table-volume_form, needs-volume_form, Needs-volume_form, table-session_admission, needs-session_admission, Needs-session_admission, table-log_compact, needs-log_compact, Needs-log_compact, table-volume_applies, needs-volume_applies, Needs-volume_applies, table-log_take, needs-log_take, Needs-log_take, table-session_renew, needs-session_renew, Needs-session_renew, table-session_take, needs-session_take, Needs-session_take, table-log_discard, needs-log_discard, Needs-log_discard, table-volume_write, needs-volume_write, Needs-volume_write, table-session_cut, needs-session_cut, Needs-session_cut, table-volume, needs-volume, Needs-volume, table-log_send, needs-log_send, Needs-log_send, table-log_push, needs-log_push, Needs-log_push, table-log_operands, needs-log_operands, Needs-log_operands, table-log_touch, needs-log_touch, Needs-log_touch, table-log_dependence, needs-log_dependence, Needs-log_dependence, table-log_order, needs-log_order, Needs-log_order, table-log_fsync, needs-log_fsync, Needs-log_fsync, table-session_fsync, needs-session_fsync, Needs-session_fsync, table-session_push, needs-session_push, Needs-session_push, table-log_draft, needs-log_draft, Needs-log_draft, table-session_change, needs-session_change, Needs-session_change, table-record_writer, needs-record_writer, Needs-record_writer, table-log_issue, needs-log_issue, Needs-log_issue, table-session_forder, needs-session_forder, Needs-session_forder, table-session_length, needs-session_length, Needs-session_length, table-session_operations, needs-session_operations, Needs-session_operations, table-session_write, needs-session_write, Needs-session_write, table-session_names, needs-session_names, Needs-session_names, table-session_rename, needs-session_rename, Needs-session_rename, table-session_remove, needs-session_remove, Needs-session_remove, table-session_make, needs-session_make, Needs-session_make, table-session_questions, needs-session_questions, Needs-session_questions, table-session_read, needs-session_read, Needs-session_read, table-session_stat, needs-session_stat, Needs-session_stat, table-session_list, needs-session_list, Needs-session_list, table-session_lookup, needs-session_lookup, Needs-session_lookup, table-session_mount, needs-session_mount, Needs-session_mount, table-writebehind, needs-writebehind, Needs-writebehind}

pub world : World
world =
    (codes "buffer", table-buffer) ∷
    (codes "returned", table-returned) ∷
    (codes "names", table-names) ∷
    (codes "volume_entry", table-volume_entry) ∷
    (codes "volume_tree", table-volume_tree) ∷
    (codes "record", table-record) ∷
    (codes "volume_questions", table-volume_questions) ∷
    (codes "paths", table-paths) ∷
    (codes "volume_lookup", table-volume_lookup) ∷
    (codes "log_slots", table-log_slots) ∷
    (codes "log_find", table-log_find) ∷
    (codes "session_losses", table-session_losses) ∷
    (codes "record_valid", table-record_valid) ∷
    (codes "record_reader", table-record_reader) ∷
    (codes "log_form", table-log_form) ∷
    (codes "volume_unique", table-volume_unique) ∷
    (codes "volume_entry_form", table-volume_entry_form) ∷
    (codes "volume_form", table-volume_form) ∷
    (codes "session_admission", table-session_admission) ∷
    (codes "log_compact", table-log_compact) ∷
    (codes "volume_applies", table-volume_applies) ∷
    (codes "log_take", table-log_take) ∷
    (codes "session_renew", table-session_renew) ∷
    (codes "session_take", table-session_take) ∷
    (codes "log_discard", table-log_discard) ∷
    (codes "volume_write", table-volume_write) ∷
    (codes "session_cut", table-session_cut) ∷
    (codes "volume", table-volume) ∷
    (codes "log_send", table-log_send) ∷
    (codes "log_push", table-log_push) ∷
    (codes "log_operands", table-log_operands) ∷
    (codes "log_touch", table-log_touch) ∷
    (codes "log_dependence", table-log_dependence) ∷
    (codes "log_order", table-log_order) ∷
    (codes "log_fsync", table-log_fsync) ∷
    (codes "session_fsync", table-session_fsync) ∷
    (codes "session_push", table-session_push) ∷
    (codes "log_draft", table-log_draft) ∷
    (codes "session_change", table-session_change) ∷
    (codes "record_writer", table-record_writer) ∷
    (codes "log_issue", table-log_issue) ∷
    (codes "session_forder", table-session_forder) ∷
    (codes "session_length", table-session_length) ∷
    (codes "session_operations", table-session_operations) ∷
    (codes "session_write", table-session_write) ∷
    (codes "session_names", table-session_names) ∷
    (codes "session_rename", table-session_rename) ∷
    (codes "session_remove", table-session_remove) ∷
    (codes "session_make", table-session_make) ∷
    (codes "session_questions", table-session_questions) ∷
    (codes "session_read", table-session_read) ∷
    (codes "session_stat", table-session_stat) ∷
    (codes "session_list", table-session_list) ∷
    (codes "session_lookup", table-session_lookup) ∷
    (codes "session_mount", table-session_mount) ∷
    (codes "writebehind", table-writebehind) ∷ []

there-buffer : Needs-buffer world
unfolding world
there-buffer = needs-buffer world refl

there-returned : Needs-returned world
unfolding world
there-returned = needs-returned world refl

there-names : Needs-names world
unfolding world
there-names = needs-names world refl there-returned

there-volume_entry : Needs-volume_entry world
unfolding world
there-volume_entry = needs-volume_entry world refl there-buffer there-names

there-volume_tree : Needs-volume_tree world
unfolding world
there-volume_tree = needs-volume_tree world refl there-names there-volume_entry there-buffer there-returned

there-record : Needs-record world
unfolding world
there-record = needs-record world refl there-buffer there-names

there-volume_questions : Needs-volume_questions world
unfolding world
there-volume_questions = needs-volume_questions world refl there-buffer there-volume_entry there-volume_tree there-returned

there-paths : Needs-paths world
unfolding world
there-paths = needs-paths world refl there-returned

there-volume_lookup : Needs-volume_lookup world
unfolding world
there-volume_lookup = needs-volume_lookup world refl there-names there-paths there-volume_entry there-volume_tree there-returned

there-log_slots : Needs-log_slots world
unfolding world
there-log_slots = needs-log_slots world refl there-buffer there-volume_tree there-volume_entry there-record

there-log_find : Needs-log_find world
unfolding world
there-log_find = needs-log_find world refl there-log_slots there-volume_tree

there-session_losses : Needs-session_losses world
unfolding world
there-session_losses = needs-session_losses world refl there-log_find there-log_slots

there-record_valid : Needs-record_valid world
unfolding world
there-record_valid = needs-record_valid world refl there-buffer there-record

there-record_reader : Needs-record_reader world
unfolding world
there-record_reader = needs-record_reader world refl there-buffer there-names there-record there-record_valid

there-log_form : Needs-log_form world
unfolding world
there-log_form = needs-log_form world refl there-buffer there-record_reader there-log_slots there-volume_tree there-volume_entry there-record

there-volume_unique : Needs-volume_unique world
unfolding world
there-volume_unique = needs-volume_unique world refl there-buffer there-names there-volume_entry there-volume_tree

there-volume_entry_form : Needs-volume_entry_form world
unfolding world
there-volume_entry_form = needs-volume_entry_form world refl there-buffer there-names there-volume_entry

there-volume_form : Needs-volume_form world
unfolding world
there-volume_form = needs-volume_form world refl there-volume_entry there-volume_entry_form there-volume_tree there-volume_unique there-buffer there-names

there-session_admission : Needs-session_admission world
unfolding world
there-session_admission = needs-session_admission world refl there-log_form there-log_slots there-volume_form there-volume_questions there-volume_tree there-volume_entry there-buffer there-returned

there-log_compact : Needs-log_compact world
unfolding world
there-log_compact = needs-log_compact world refl there-buffer there-log_slots there-volume_entry

there-volume_applies : Needs-volume_applies world
unfolding world
there-volume_applies = needs-volume_applies world refl there-buffer there-record_valid there-volume_entry there-volume_tree there-record_reader there-record

there-log_take : Needs-log_take world
unfolding world
there-log_take = needs-log_take world refl there-buffer there-log_compact there-log_slots there-record_reader there-log_find there-volume_applies there-volume_tree there-volume_entry there-record

there-session_renew : Needs-session_renew world
unfolding world
there-session_renew = needs-session_renew world refl there-log_take there-session_admission there-session_losses there-log_find there-record there-returned

there-session_take : Needs-session_take world
unfolding world
there-session_take = needs-session_take world refl there-log_take there-session_admission there-session_losses there-log_find there-record there-buffer there-returned

there-log_discard : Needs-log_discard world
unfolding world
there-log_discard = needs-log_discard world refl there-log_slots there-volume_tree

there-volume_write : Needs-volume_write world
unfolding world
there-volume_write = needs-volume_write world refl there-buffer there-volume_entry there-volume_tree there-names

there-session_cut : Needs-session_cut world
unfolding world
there-session_cut = needs-session_cut world refl there-log_discard there-session_admission there-volume_write there-returned

there-volume : Needs-volume world
unfolding world
there-volume = needs-volume world refl there-buffer there-record_valid there-volume_write there-volume_applies there-volume_tree there-volume_entry there-record_reader there-record there-names

there-log_send : Needs-log_send world
unfolding world
there-log_send = needs-log_send world refl there-log_slots there-record_reader there-volume there-volume_applies there-volume_tree there-volume_entry there-record

there-log_push : Needs-log_push world
unfolding world
there-log_push = needs-log_push world refl there-log_compact there-log_send there-log_slots there-volume_tree

there-log_operands : Needs-log_operands world
unfolding world
there-log_operands = needs-log_operands world refl there-record_reader there-record_valid there-record there-buffer

there-log_touch : Needs-log_touch world
unfolding world
there-log_touch = needs-log_touch world refl there-buffer there-record_valid there-log_operands there-record_reader there-record

there-log_dependence : Needs-log_dependence world
unfolding world
there-log_dependence = needs-log_dependence world refl there-log_operands there-log_slots there-log_touch there-volume_tree there-volume_entry there-record

there-log_order : Needs-log_order world
unfolding world
there-log_order = needs-log_order world refl there-buffer there-log_operands there-log_slots there-log_touch there-log_dependence there-volume_tree there-record

there-log_fsync : Needs-log_fsync world
unfolding world
there-log_fsync = needs-log_fsync world refl there-log_dependence there-log_discard there-log_order there-log_push there-log_send there-log_slots there-log_touch there-volume_tree there-record there-returned

there-session_fsync : Needs-session_fsync world
unfolding world
there-session_fsync = needs-session_fsync world refl there-log_fsync there-returned there-session_admission there-volume_write there-volume_tree there-record

there-session_push : Needs-session_push world
unfolding world
there-session_push = needs-session_push world refl there-log_find there-log_order there-log_push there-log_slots there-session_admission there-volume_tree there-record there-returned

there-log_draft : Needs-log_draft world
unfolding world
there-log_draft = needs-log_draft world refl there-buffer there-log_dependence there-log_operands there-log_slots there-log_touch there-record_reader there-volume there-volume_applies there-volume_tree there-volume_entry there-record

there-session_change : Needs-session_change world
unfolding world
there-session_change = needs-session_change world refl there-session_admission there-log_draft there-volume_tree there-record there-returned

there-record_writer : Needs-record_writer world
unfolding world
there-record_writer = needs-record_writer world refl there-buffer there-record

there-log_issue : Needs-log_issue world
unfolding world
there-log_issue = needs-log_issue world refl there-log_draft there-record_writer there-volume_tree there-volume_entry there-record

there-session_forder : Needs-session_forder world
unfolding world
there-session_forder = needs-session_forder world refl there-log_issue there-record_valid there-session_admission there-session_change there-volume_entry there-volume_tree there-log_draft there-record_writer there-record there-buffer there-returned

there-session_length : Needs-session_length world
unfolding world
there-session_length = needs-session_length world refl there-log_issue there-session_admission there-session_change there-log_draft there-volume_tree there-record_writer there-record there-buffer there-returned

there-session_operations : Needs-session_operations world
unfolding world
there-session_operations = needs-session_operations world refl there-log_issue there-session_change there-session_admission there-log_draft there-volume_tree there-record_writer there-record

there-session_write : Needs-session_write world
unfolding world
there-session_write = needs-session_write world refl there-session_admission there-session_change there-session_operations there-volume_entry there-volume_tree there-log_draft there-buffer there-returned

there-session_names : Needs-session_names world
unfolding world
there-session_names = needs-session_names world refl there-names there-returned there-session_admission there-volume_tree there-volume_entry

there-session_rename : Needs-session_rename world
unfolding world
there-session_rename = needs-session_rename world refl there-log_issue there-session_admission there-session_change there-session_names there-volume_entry there-volume_tree there-log_draft there-record_writer there-record there-names there-returned

there-session_remove : Needs-session_remove world
unfolding world
there-session_remove = needs-session_remove world refl there-log_issue there-session_admission there-session_change there-session_names there-volume_entry there-volume_tree there-log_draft there-record_writer there-record there-returned

there-session_make : Needs-session_make world
unfolding world
there-session_make = needs-session_make world refl there-log_issue there-session_admission there-session_change there-session_names there-volume_entry there-volume_tree there-log_draft there-record_writer there-record there-returned

there-session_questions : Needs-session_questions world
unfolding world
there-session_questions = needs-session_questions world refl there-log_dependence there-log_touch there-session_admission there-volume_questions there-volume_tree there-returned

there-session_read : Needs-session_read world
unfolding world
there-session_read = needs-session_read world refl there-session_questions there-volume_questions there-volume_tree there-volume_entry there-returned

there-session_stat : Needs-session_stat world
unfolding world
there-session_stat = needs-session_stat world refl there-returned there-session_questions there-volume_questions there-volume_tree

there-session_list : Needs-session_list world
unfolding world
there-session_list = needs-session_list world refl there-session_questions there-volume_questions there-volume_tree there-returned

there-session_lookup : Needs-session_lookup world
unfolding world
there-session_lookup = needs-session_lookup world refl there-log_dependence there-session_questions there-volume_lookup there-volume_tree there-record there-buffer there-paths there-returned

there-session_mount : Needs-session_mount world
unfolding world
there-session_mount = needs-session_mount world refl there-buffer there-session_admission there-volume_form there-volume_tree there-volume_write there-log_form there-log_slots there-returned

pub there-writebehind : Needs-writebehind world
unfolding world
there-writebehind = needs-writebehind world refl there-record there-record_reader there-returned there-session_cut there-session_forder there-session_fsync there-session_length there-session_list there-session_lookup there-session_make there-session_mount there-session_push there-session_read there-session_remove there-session_rename there-session_renew there-session_stat there-session_take there-session_write there-buffer
