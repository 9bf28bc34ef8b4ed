use Rattle.std.proofs.Common.{◌≡◌, Ok, Err, ◌+◌}
use Rattle.fields.specs.declared.faults.FieldCause.TheVariants.{Blank}
use Rattle.fields.specs.Checks.{blanks_from, fault_of}
use Rattle.fields.proofs.Blanks.{filled_is, blank_is, told_filled}
use Rattle.fields.proofs.field.Field.expect_blank.Goals as goal

pub returns-then-blanks-self : goal.returns-then-blanks-self
returns-then-blanks-self c =
    let told = c.leading_blanks-blanks.ensures in
    let answer : Err (fault_of Blank (c.args.self.column + c.leading_blanks-blanks.result)) ≡ blanks_from c.args.self.column c.args.self.bytes.now =
    filled_is _ _ c.args.self.bytes.now (record { within = told.within; before = told.before; found = told.found }) c.if-blanks-self.true in
    record { answer = answer; first = told_filled _ _ _ answer }

pub returns : goal.returns
returns c =
    let told = c.leading_blanks-blanks.ensures in
    let answer : Ok tt ≡ blanks_from c.args.self.column c.args.self.bytes.now =
    blank_is _ _ c.args.self.bytes.now (record { within = told.within; before = told.before; found = told.found }) c.if-blanks-self.false in
    record { answer = answer; first = told_filled _ _ _ answer }
