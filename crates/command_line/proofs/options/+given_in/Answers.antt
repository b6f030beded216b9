use Rattle.std.proofs.Common.{refl}
use Rattle.command_line.specs.Options.{none}
use Rattle.command_line.proofs.WordLemmas.{joined_found, joined_complete, no_value, no_setting, apart_found, apart_complete}
use Rattle.command_line.proofs.options.+given_in.Goals as goal

pub returns-in_default-clause-found : goal.returns-in_default-clause-found
returns-in_default-clause-found t c = none _ _ c.in_default.ensures.words refl

pub returns-in-Some-joined_setting-clause-found : goal.returns-in-Some-joined_setting-clause-found
returns-in-Some-joined_setting-clause-found t c =
    joined_found c.with_setting.result _ c.in-Some.word.now _ c.in-Some-joined_setting.setting c.in_ok-given_in.field-0 c.in-Some.ensures.words
    c.in-Some-joined_setting.ensures.found c.in_ok-given_in.ensures.found c.with_setting.ensures.found

pub returns-in-Some-joined_setting-clause-complete : goal.returns-in-Some-joined_setting-clause-complete
returns-in-Some-joined_setting-clause-complete t c =
    joined_complete c.with_setting.result _ c.in-Some.word.now _ c.in-Some-joined_setting.setting c.in_ok-given_in.field-0 c.in-Some.ensures.words
    c.in-Some-joined_setting.ensures.found c.in_ok-given_in.ensures.found c.with_setting.ensures.complete

pub returns-in_err-value-clause-complete : goal.returns-in_err-value-clause-complete
returns-in_err-value-clause-complete t c =
    no_value _ _ c.in-Some.word.now _ c.in-Some.ensures.words c.in_default-joined_setting.ensures.complete c.in_err-value.ensures.words

pub returns-in_err-setting-clause-complete : goal.returns-in_err-setting-clause-complete
returns-in_err-setting-clause-complete t c =
    no_setting _ _ c.in-Some.word.now c.in_ok-value.value.now _ _ c.in-Some.ensures.words c.in_ok-value.ensures.words
    c.in_default-joined_setting.ensures.complete c.in_err-setting.ensures.complete

pub returns-clause-found : goal.returns-clause-found
returns-clause-found t c =
    apart_found c.with_setting-2.result _ c.in-Some.word.now c.in_ok-value.value.now _ _ c.in_ok-setting.setting c.in_ok-given_in-2.field-0
    c.in-Some.ensures.words c.in_ok-value.ensures.words c.in_ok-setting.ensures.found c.in_ok-given_in-2.ensures.found c.with_setting-2.ensures.found

pub returns-clause-complete : goal.returns-clause-complete
returns-clause-complete t c =
    apart_complete c.with_setting-2.result _ c.in-Some.word.now c.in_ok-value.value.now _ _ c.in_ok-setting.setting c.in_ok-given_in-2.field-0
    c.in-Some.ensures.words c.in_ok-value.ensures.words c.in_default-joined_setting.ensures.complete
    c.in_ok-setting.ensures.found c.in_ok-given_in-2.ensures.found c.with_setting-2.ensures.complete
