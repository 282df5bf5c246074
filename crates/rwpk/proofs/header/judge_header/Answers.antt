-- Each way out, once the fields that were read are known.
use Rattle.std.proofs.Common.{ℕ, ◌≤◌, List, length, arith, ltb-false}
use Rattle.std.proofs.lemmas.Bool.Decides.{nat_tests}
use Rattle.rwpk.proofs.Reading.{after4, first, second, third, after4_long}
use Rattle.rwpk.proofs.header.judge_header.Goals as goal

pub returns-then-size-input : goal.returns-then-size-input
returns-then-size-input c =
    let size = first c.args.input.now _ (omega (arith, ltb-false)) c.from_be_bytes-size.ensures in
    simp size (grind (arith, nat_tests))

pub returns-then-kind-ne-RWPK : goal.returns-then-kind-ne-RWPK
returns-then-kind-ne-RWPK c =
    let input : List ℕ = c.args.input.now in
    let long : 4 ≤ length input = omega (arith, ltb-false) in
    let size = first input _ long c.from_be_bytes-size.ensures in
    let kind = second input _ (omega (arith, ltb-false)) c.from_be_bytes-kind.ensures in
    let left = after4_long input long in
    simp (size, kind) (grind (arith, nat_tests))

pub returns-then-version_and_flags-ne0 : goal.returns-then-version_and_flags-ne0
returns-then-version_and_flags-ne0 c =
    let input : List ℕ = c.args.input.now in
    let long : 4 ≤ length input = omega (arith, ltb-false) in
    let longer : 4 ≤ length (after4 input) = omega (arith, ltb-false) in
    let size = first input _ long c.from_be_bytes-size.ensures in
    let kind = second input _ longer c.from_be_bytes-kind.ensures in
    let version = third input _ (omega (arith, ltb-false)) c.from_be_bytes-version_and_flags.ensures in
    let left = after4_long input long in
    let left' = after4_long (after4 input) longer in
    simp (size, kind, version) (grind (arith, nat_tests))

pub returns : goal.returns
returns c =
    let input : List ℕ = c.args.input.now in
    let long : 4 ≤ length input = omega (arith, ltb-false) in
    let longer : 4 ≤ length (after4 input) = omega (arith, ltb-false) in
    let longest : 4 ≤ length (after4 (after4 input)) = omega (arith, ltb-false) in
    let size = first input _ long c.from_be_bytes-size.ensures in
    let kind = second input _ longer c.from_be_bytes-kind.ensures in
    let version = third input _ longest c.from_be_bytes-version_and_flags.ensures in
    let left = after4_long input long in
    let left' = after4_long (after4 input) longer in
    let left'' = after4_long (after4 (after4 input)) longest in
    simp (size, kind, version) (grind (arith, nat_tests))
