use Rattle.std.proofs.Common.{◌||◌, Bool, List, sym, ap, ◌∙◌}
use Rattle.std.specs.List.{list_any}
use Rattle.std.proofs.lemmas.List.Folds.{list_any-append}
use Rattle.lsm_key.specs.declared.range.KeyRange.{KeyRange}
use Rattle.lsm_key.specs.Versions.{is_long}
use Rattle.lsm_edit.specs.declared.file.FileMeta.{FileMeta}
use Rattle.lsm_msg.specs.declared.message.Body.{Body}
use Rattle.lsm_msg.specs.Messages.{keys_of_files, keys_of_ranges, own_keys}
use Rattle.lsm_msg.proofs.MessageVersions.{long_files, long_ranges}
use Rattle.lsm_msg.proofs.version.has_long_key.Goals as goal

abbrev long_in_files : List FileMeta → Bool
long_in_files files = list_any is_long (keys_of_files files)

abbrev long_in_ranges : List KeyRange → Bool
long_in_ranges ranges = list_any is_long (keys_of_ranges ranges)

abbrev long_in_body : Body → Bool
long_in_body b = list_any is_long (own_keys b)

pub returns-then-has_long_file : goal.returns-then-has_long_file
returns-then-has_long_file c =
    let j = c.in-Job.job in
    let files = c.has_long_file.ensures ∙ long_files c.inputs.result.now ∙ ap long_in_files c.inputs.ensures.all in
    c.if-has_long_file.true
    ∙ sym (ap long_in_body c.in-Job.is ∙ list_any-append is_long (keys_of_files j.inputs) (keys_of_ranges j.deeper) ∙ ap (λ (b : Bool). b || long_in_ranges j.deeper) (sym files ∙ c.if-has_long_file.true))

pub returns-else-has_long_file : goal.returns-else-has_long_file
returns-else-has_long_file c =
    let j = c.in-Job.job in
    let files = c.has_long_file.ensures ∙ long_files c.inputs.result.now ∙ ap long_in_files c.inputs.ensures.all in
    let ranges = c.has_long_range.ensures ∙ long_ranges c.deeper.result.now ∙ ap long_in_ranges c.deeper.ensures.all in
    ranges
    ∙ sym (ap long_in_body c.in-Job.is ∙ list_any-append is_long (keys_of_files j.inputs) (keys_of_ranges j.deeper) ∙ ap (λ (b : Bool). b || long_in_ranges j.deeper) (sym files ∙ c.if-has_long_file.false))

pub returns-in-Edit : goal.returns-in-Edit
returns-in-Edit c = c.has_long_file-in-Edit.ensures ∙ long_files c.as_slice.result.now ∙ ap long_in_files c.as_slice.ensures ∙ sym (ap long_in_body c.in-Edit.is)

pub returns-in-Base : goal.returns-in-Base
returns-in-Base c = c.has_long_file-in-Base.ensures ∙ long_files c.files.result.now ∙ ap long_in_files c.files.ensures.all ∙ sym (ap long_in_body c.in-Base.is)
