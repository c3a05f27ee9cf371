use Rattle.std.proofs.Common.{◌≡◌, ◌<◌, ◌≤◌, length, get_or}
use Rattle.hip_typing.proofs.DifferLemmas.{RightBefore, function_differs, right_before_more, right_everywhere, refused_in_program}
use Rattle.hip_typing.proofs.assigned.functions.verify_assigned.Goals as goal

pub verify_function-requires : goal.verify_function-requires
verify_function-requires c =
    let functions = c.args.program.now.functions in
    let within : c.each.number < length functions = rw (← c.as_slice-functions.ensures) c.each-test.true in
    let is : c.index-functions-number.result ≡ get_or functions c.each.number c.index-functions-number.result = rw (← c.as_slice-functions.ensures) c.index-functions-number.is in
    function_differs c.args.program.now c.each.number c.index-functions-number.result c.requires within is

pub returns-in-Err : goal.returns-in-Err
returns-in-Err c =
    let functions = c.args.program.now.functions in
    let within : c.each.number < length functions = rw (← c.as_slice-functions.ensures) c.each-test.true in
    let is : c.index-functions-number.result ≡ get_or functions c.each.number c.index-functions-number.result = rw (← c.as_slice-functions.ensures) c.index-functions-number.is in
    let before : RightBefore functions c.each.number = rw (← c.as_slice-functions.ensures) c.each.invariant in
    refused_in_program c.args.program.now c.each.number c.index-functions-number.result c.in-Err.refused before within is c.in-Err.ensures

pub each-preserved : goal.each-preserved
each-preserved c = right_before_more c.as_slice-functions.result.now c.each.number c.index-functions-number.result c.each.invariant c.each-test.true c.index-functions-number.is c.in_default.ensures

pub returns : goal.returns
returns c =
    let functions = c.args.program.now.functions in
    let past : length functions ≤ c.each.number = rw (← c.as_slice-functions.ensures) c.each-test.false in
    let before : RightBefore functions c.each.number = rw (← c.as_slice-functions.ensures) c.each.invariant in
    right_everywhere functions c.each.number before past
