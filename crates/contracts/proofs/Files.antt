-- Contracts of numbers in bytes, streams, trace files and listings: each asks nothing, and settles what is said here for every input. One asks
-- something, `show_input`: that what it is handed may be called.
use Rattle.command.specs.Command.{command_is}
use Rattle.command.specs.Refusal.{number_in}
use Rattle.contracts.proofs.Exactly.{exactly}
use Rattle.contracts.specs.Contract.{AsksNoMore, Held, Settled}
use Rattle.endian.proofs.at.Reads as EndianAt
use Rattle.endian.proofs.put.Reads as EndianPut
use Rattle.endian.proofs.numbers.U8Number.read.Reads as U8Read
use Rattle.endian.proofs.numbers.U8Number.write.Reads as U8Write
use Rattle.endian.proofs.numbers.U16Number.read.Reads as U16Read
use Rattle.endian.proofs.numbers.U16Number.write.Reads as U16Write
use Rattle.endian.proofs.numbers.U32Number.read.Reads as U32Read
use Rattle.endian.proofs.numbers.U32Number.write.Reads as U32Write
use Rattle.endian.proofs.numbers.U64Number.read.Reads as U64Read
use Rattle.endian.proofs.numbers.U64Number.write.Reads as U64Write
use Rattle.endian.specs.Bytes.{field, put_field}
use Rattle.io.specs.Counts.{IsPrefixLen}
use Rattle.runs.proofs.put.Reads as RunsPut
use Rattle.runs.proofs.read.Reads as RunsRead
use Rattle.script.proofs.line_after.Reads as ScriptLineAfter
use Rattle.script.proofs.numbers_of.Reads as ScriptNumbersOf
use Rattle.script.specs.Script.{line_after, numbers_of}
use Rattle.runs.proofs.RunLaws.{put_plain, read_plain}
use Rattle.runs.specs.Runs.{put_run, read_run}
use Rattle.steps.specs.Step.{tables_of}
use Rattle.std.proofs.Common.{ℕ, [], min, take, decimal, IfOk, IfSome, OnOk, subst, Ok, Err, IsErrOf, ◌⊎◌}
use Rattle.std.specs.Io.{StartsWith, WritesAtMost}
use Rattle.std.specs.Io.KnownBytes.{Appends, IsAtEnd, Keeps, WriteAppends}
use Rattle.std.specs.declared.env.Env as Env
use Rattle.std.specs.declared.io.traits.Read as Read
use Rattle.std.specs.declared.io.traits.Write as Write
use Rattle.streams.proofs.PlainWrite.flush.Reads as StreamsPlainFlush
use Rattle.streams.proofs.PlainWrite.write.Reads as StreamsPlainWrite
use Rattle.streams.proofs.PlainWrite.write_all.Reads as StreamsPlainWriteAll
use Rattle.streams.proofs.TryingWrite.flush.Reads as StreamsTryingFlush
use Rattle.streams.proofs.TryingWrite.write.Reads as StreamsTryingWrite
use Rattle.streams.proofs.TryingWrite.write_all.Reads as StreamsTryingWriteAll
use Rattle.streams.proofs.arg.Reads as StreamsArg
use Rattle.streams.proofs.print_decimal.Reads as StreamsPrintDecimal
use Rattle.streams.proofs.read_file.Reads as StreamsReadFile
use Rattle.streams.proofs.show_input.Reads as StreamsShowInput
use Rattle.streams.proofs.show_input_by.Reads as StreamsShowInputBy
use Rattle.streams.proofs.write_all.Reads as StreamsWriteAll
use Rattle.streams.specs.Kept.{kept}
use Rattle.streams.specs.Shown.{Shown}
use Rattle.streams.specs.ShownBy.{ShownBy}
use Rattle.streams.specs.contracts.show_input.F-FnOnce as ShowCall
use Rattle.streams.specs.declared.Show as Show
use Rattle.streams.specs.declared.Failure.TheVariants.{Input, Output}
use Rattle.std.specs.declared.io.Error.{Error}
use Rattle.trace.proofs.list.Reads as TraceList
use Rattle.trace.specs.Calls.{list_of, listed_of}
use Rattle.tracefile.proofs.command_at.Reads as TracefileCommandAt
use Rattle.tracefile.proofs.refusal.Reads as TracefileRefusal
use Rattle.tracefile.proofs.steps.Reads as TracefileSteps
use Rattle.tracefile.specs.File.{command_at, file_refusal, step_count}
use Rattle.endian.specs.contracts.numbers.U64Number.TheImpl as U64Number
use Rattle.endian.specs.contracts.numbers.U32Number.TheImpl as U32Number
use Rattle.endian.specs.contracts.numbers.U16Number.TheImpl as U16Number
use Rattle.endian.specs.contracts.numbers.U8Number.TheImpl as U8Number
use Rattle.std.specs.declared.clone.Clone as Clone
use Prim.Native.Nat.{◌≤◌}
use denote.Builtin.{u8, u16, u32, u64}
use denote.Param.Laws.{Laws, IsCopy}
use denote.RattleType.{RattleType}
use lib.ListN.{length}
use mathlib.Core.List.{List, Mem, not-mem-nil}
use mathlib.Core.Path.{◌≡◌}
use mir.Syntax.{Dict}

-- A type of numbers borrows nothing: no loan of it has to last.
none_lent : {P : Type 0} (κ : ℕ) → Mem κ [] → P
none_lent κ m = absurd (not-mem-nil m)

-- ---- `endian` and `runs`, at each type of numbers

module _ (laws : Laws u8) (copy : IsCopy u8) (dict : Dict) (its : Clone.Ghosts u8.Denot) (its_dict : Dict) where
  endian_at_u8 : Held (EndianAt.Asked u8 laws copy U8Number.ghosts dict its its_dict) (EndianAt.Learnt u8 laws copy U8Number.ghosts dict its its_dict)
      (λ κs a r e. let bytes = a.0 in let place = a.1.0 in r ≡ field place 1 bytes.now)
  endian_at_u8 = record { asks_nothing = λ κs a κ m. none_lent κ m; settles = λ κs a r e h. h }

  endian_put_u8 : Held (EndianPut.Asked u8 laws copy U8Number.ghosts dict its its_dict) (EndianPut.Learnt u8 laws copy U8Number.ghosts dict its its_dict)
      (λ κs a r e.
      let bytes = a.0 in let bytes' = e.0 in let place = a.1.0 in let value = a.1.1.0 in
      bytes'.now ≡ put_field place 1 value bytes.now)
  endian_put_u8 = record { asks_nothing = λ κs a κ m. none_lent κ m; settles = λ κs a r e h. h }

  runs_read_u8s : Held (RunsRead.Asked u8 laws copy U8Number.ghosts dict its its_dict) (RunsRead.Learnt u8 laws copy U8Number.ghosts dict its its_dict)
      (λ κs a r e.
      let bytes = a.0 in let at = a.1.0 in let numbers = a.1.1.0 in let numbers' = e.1.1.0 in
      numbers'.now ≡ read_run at 1 bytes.now numbers.now)
  runs_read_u8s = record {
    asks_nothing = λ κs a κ m. none_lent κ m;
    settles = λ κs a r e h. read_plain a.1.0 1 a.0.now a.1.1.0.now e.1.1.0.now h;
  }

  runs_put_u8s : Held (RunsPut.Asked u8 laws copy U8Number.ghosts dict its its_dict) (RunsPut.Learnt u8 laws copy U8Number.ghosts dict its its_dict)
      (λ κs a r e.
      let bytes = a.0 in let bytes' = e.0 in let at = a.1.0 in let numbers = a.1.1.0 in
      bytes'.now ≡ put_run at 1 numbers.now bytes.now)
  runs_put_u8s = record {
    asks_nothing = λ κs a κ m. none_lent κ m;
    settles = λ κs a r e h. put_plain a.1.0 1 a.0.now a.1.1.0.now e.0.now h;
  }

module _ (laws : Laws u16) (copy : IsCopy u16) (dict : Dict) (its : Clone.Ghosts u16.Denot) (its_dict : Dict) where
  endian_at_u16 : Held (EndianAt.Asked u16 laws copy U16Number.ghosts dict its its_dict) (EndianAt.Learnt u16 laws copy U16Number.ghosts dict its its_dict)
      (λ κs a r e. let bytes = a.0 in let place = a.1.0 in r ≡ field place 2 bytes.now)
  endian_at_u16 = record { asks_nothing = λ κs a κ m. none_lent κ m; settles = λ κs a r e h. h }

  endian_put_u16 : Held (EndianPut.Asked u16 laws copy U16Number.ghosts dict its its_dict) (EndianPut.Learnt u16 laws copy U16Number.ghosts dict its its_dict)
      (λ κs a r e.
      let bytes = a.0 in let bytes' = e.0 in let place = a.1.0 in let value = a.1.1.0 in
      bytes'.now ≡ put_field place 2 value bytes.now)
  endian_put_u16 = record { asks_nothing = λ κs a κ m. none_lent κ m; settles = λ κs a r e h. h }

  runs_read_u16s : Held (RunsRead.Asked u16 laws copy U16Number.ghosts dict its its_dict) (RunsRead.Learnt u16 laws copy U16Number.ghosts dict its its_dict)
      (λ κs a r e.
      let bytes = a.0 in let at = a.1.0 in let numbers = a.1.1.0 in let numbers' = e.1.1.0 in
      numbers'.now ≡ read_run at 2 bytes.now numbers.now)
  runs_read_u16s = record {
    asks_nothing = λ κs a κ m. none_lent κ m;
    settles = λ κs a r e h. read_plain a.1.0 2 a.0.now a.1.1.0.now e.1.1.0.now h;
  }

  runs_put_u16s : Held (RunsPut.Asked u16 laws copy U16Number.ghosts dict its its_dict) (RunsPut.Learnt u16 laws copy U16Number.ghosts dict its its_dict)
      (λ κs a r e.
      let bytes = a.0 in let bytes' = e.0 in let at = a.1.0 in let numbers = a.1.1.0 in
      bytes'.now ≡ put_run at 2 numbers.now bytes.now)
  runs_put_u16s = record {
    asks_nothing = λ κs a κ m. none_lent κ m;
    settles = λ κs a r e h. put_plain a.1.0 2 a.0.now a.1.1.0.now e.0.now h;
  }

module _ (laws : Laws u32) (copy : IsCopy u32) (dict : Dict) (its : Clone.Ghosts u32.Denot) (its_dict : Dict) where
  endian_at_u32 : Held (EndianAt.Asked u32 laws copy U32Number.ghosts dict its its_dict) (EndianAt.Learnt u32 laws copy U32Number.ghosts dict its its_dict)
      (λ κs a r e. let bytes = a.0 in let place = a.1.0 in r ≡ field place 4 bytes.now)
  endian_at_u32 = record { asks_nothing = λ κs a κ m. none_lent κ m; settles = λ κs a r e h. h }

  endian_put_u32 : Held (EndianPut.Asked u32 laws copy U32Number.ghosts dict its its_dict) (EndianPut.Learnt u32 laws copy U32Number.ghosts dict its its_dict)
      (λ κs a r e.
      let bytes = a.0 in let bytes' = e.0 in let place = a.1.0 in let value = a.1.1.0 in
      bytes'.now ≡ put_field place 4 value bytes.now)
  endian_put_u32 = record { asks_nothing = λ κs a κ m. none_lent κ m; settles = λ κs a r e h. h }

  runs_read_u32s : Held (RunsRead.Asked u32 laws copy U32Number.ghosts dict its its_dict) (RunsRead.Learnt u32 laws copy U32Number.ghosts dict its its_dict)
      (λ κs a r e.
      let bytes = a.0 in let at = a.1.0 in let numbers = a.1.1.0 in let numbers' = e.1.1.0 in
      numbers'.now ≡ read_run at 4 bytes.now numbers.now)
  runs_read_u32s = record {
    asks_nothing = λ κs a κ m. none_lent κ m;
    settles = λ κs a r e h. read_plain a.1.0 4 a.0.now a.1.1.0.now e.1.1.0.now h;
  }

  runs_put_u32s : Held (RunsPut.Asked u32 laws copy U32Number.ghosts dict its its_dict) (RunsPut.Learnt u32 laws copy U32Number.ghosts dict its its_dict)
      (λ κs a r e.
      let bytes = a.0 in let bytes' = e.0 in let at = a.1.0 in let numbers = a.1.1.0 in
      bytes'.now ≡ put_run at 4 numbers.now bytes.now)
  runs_put_u32s = record {
    asks_nothing = λ κs a κ m. none_lent κ m;
    settles = λ κs a r e h. put_plain a.1.0 4 a.0.now a.1.1.0.now e.0.now h;
  }

module _ (laws : Laws u64) (copy : IsCopy u64) (dict : Dict) (its : Clone.Ghosts u64.Denot) (its_dict : Dict) where
  endian_at_u64 : Held (EndianAt.Asked u64 laws copy U64Number.ghosts dict its its_dict) (EndianAt.Learnt u64 laws copy U64Number.ghosts dict its its_dict)
      (λ κs a r e. let bytes = a.0 in let place = a.1.0 in r ≡ field place 8 bytes.now)
  endian_at_u64 = record { asks_nothing = λ κs a κ m. none_lent κ m; settles = λ κs a r e h. h }

  endian_put_u64 : Held (EndianPut.Asked u64 laws copy U64Number.ghosts dict its its_dict) (EndianPut.Learnt u64 laws copy U64Number.ghosts dict its its_dict)
      (λ κs a r e.
      let bytes = a.0 in let bytes' = e.0 in let place = a.1.0 in let value = a.1.1.0 in
      bytes'.now ≡ put_field place 8 value bytes.now)
  endian_put_u64 = record { asks_nothing = λ κs a κ m. none_lent κ m; settles = λ κs a r e h. h }

  runs_read_u64s : Held (RunsRead.Asked u64 laws copy U64Number.ghosts dict its its_dict) (RunsRead.Learnt u64 laws copy U64Number.ghosts dict its its_dict)
      (λ κs a r e.
      let bytes = a.0 in let at = a.1.0 in let numbers = a.1.1.0 in let numbers' = e.1.1.0 in
      numbers'.now ≡ read_run at 8 bytes.now numbers.now)
  runs_read_u64s = record {
    asks_nothing = λ κs a κ m. none_lent κ m;
    settles = λ κs a r e h. read_plain a.1.0 8 a.0.now a.1.1.0.now e.1.1.0.now h;
  }

  runs_put_u64s : Held (RunsPut.Asked u64 laws copy U64Number.ghosts dict its its_dict) (RunsPut.Learnt u64 laws copy U64Number.ghosts dict its its_dict)
      (λ κs a r e.
      let bytes = a.0 in let bytes' = e.0 in let at = a.1.0 in let numbers = a.1.1.0 in
      bytes'.now ≡ put_run at 8 numbers.now bytes.now)
  runs_put_u64s = record {
    asks_nothing = λ κs a κ m. none_lent κ m;
    settles = λ κs a r e h. put_plain a.1.0 8 a.0.now a.1.1.0.now e.0.now h;
  }

-- What a type of numbers gives to these: its own `read` and `write`.

u8_read : Held U8Read.Asked U8Read.Learnt (λ κs a r e. let bytes = a.0 in r ≡ field 0 1 bytes.now)
u8_read = exactly

u8_write : Held U8Write.Asked U8Write.Learnt
    (λ κs a r e. let self = a.0 in let bytes = a.1.0 in let bytes' = e.1.0 in bytes'.now ≡ put_field 0 1 self bytes.now)
u8_write = exactly

u16_read : Held U16Read.Asked U16Read.Learnt (λ κs a r e. let bytes = a.0 in r ≡ field 0 2 bytes.now)
u16_read = exactly

u16_write : Held U16Write.Asked U16Write.Learnt
    (λ κs a r e. let self = a.0 in let bytes = a.1.0 in let bytes' = e.1.0 in bytes'.now ≡ put_field 0 2 self bytes.now)
u16_write = exactly

u32_read : Held U32Read.Asked U32Read.Learnt (λ κs a r e. let bytes = a.0 in r ≡ field 0 4 bytes.now)
u32_read = exactly

u32_write : Held U32Write.Asked U32Write.Learnt
    (λ κs a r e. let self = a.0 in let bytes = a.1.0 in let bytes' = e.1.0 in bytes'.now ≡ put_field 0 4 self bytes.now)
u32_write = exactly

u64_read : Held U64Read.Asked U64Read.Learnt (λ κs a r e. let bytes = a.0 in r ≡ field 0 8 bytes.now)
u64_read = exactly

u64_write : Held U64Write.Asked U64Write.Learnt
    (λ κs a r e. let self = a.0 in let bytes = a.1.0 in let bytes' = e.1.0 in bytes'.now ≡ put_field 0 8 self bytes.now)
u64_write = exactly

-- ---- `streams`, of any reader, writer or handle that borrows nothing: all that is asked of one that borrows is that its loans last

lasts : {P : Type 0} (loans : List ℕ) → loans ≡ [] → (κ : ℕ) → Mem κ loans → P
lasts loans none κ m = absurd (not-mem-nil (subst (Mem κ) none m))

module _ (T : RattleType) (none : T.lives ≡ []) (laws : Laws T) (dict : Dict) where
  streams_read_file : (its : Read.Ghosts T.Denot) → Held (StreamsReadFile.Asked T laws its dict) (StreamsReadFile.Learnt T laws its dict)
      (λ κs a r e.
      let input = a.0 in let input' = e.0 in let file' = e.1.0 in
      (IsPrefixLen (kept r) file'.now)
      × ((IfSome (its.remaining input.now) (λ bytes. StartsWith bytes (take (kept r) file'.now)))
      × ((IfOk r (λ count. IfSome (its.remaining input.now) (λ bytes. count ≡ min (length bytes) 40969)))
      × (OnOk r (IsAtEnd (its.remaining input'.now))))))
  streams_read_file its = record { asks_nothing = λ κs a κ m. lasts T.lives none κ m; settles = λ κs a r e h. h }

  streams_write_all : (its : Write.Ghosts T.Denot) → Held (StreamsWriteAll.Asked T laws its dict) (StreamsWriteAll.Learnt T laws its dict)
      (λ κs a r e.
      let output = a.0 in let output' = e.0 in let bytes = a.1.0 in
      (OnOk r (Appends (its.contents output.now) (its.contents output'.now) bytes.now))
      × ((n : ℕ) × Appends (its.contents output.now) (its.contents output'.now) (take n bytes.now)))
  streams_write_all its = record { asks_nothing = λ κs a κ m. lasts T.lives none κ m; settles = λ κs a r e h. h }

  streams_print_decimal : (its : Write.Ghosts T.Denot) → Held (StreamsPrintDecimal.Asked T laws its dict) (StreamsPrintDecimal.Learnt T laws its dict)
      (λ κs a r e.
      let output = a.0 in let output' = e.0 in let n = a.1.0 in
      OnOk r (Appends (its.contents output.now) (its.contents output'.now) (decimal n)))
  streams_print_decimal its = record { asks_nothing = λ κs a κ m. lasts T.lives none κ m; settles = λ κs a r e h. h }

  streams_plain_write_all : (its : Write.Ghosts T.Denot) → Held (StreamsPlainWriteAll.Asked T laws its dict) (StreamsPlainWriteAll.Learnt T laws its dict)
      (λ κs a r e.
      let writer = a.0 in let writer' = e.0 in let bytes = a.1.0 in
      OnOk r (Appends (its.contents writer.now.output.now) (its.contents writer'.now.output.now) bytes.now))
  streams_plain_write_all its = record { asks_nothing = λ κs a κ m. lasts T.lives none κ m; settles = λ κs a r e h. h }

  streams_plain_write : (its : Write.Ghosts T.Denot) → Held (StreamsPlainWrite.Asked T laws its dict) (StreamsPlainWrite.Learnt T laws its dict)
      (λ κs a r e.
      let writer = a.0 in let writer' = e.0 in let bytes = a.1.0 in
      (WritesAtMost r bytes.now)
      × (WriteAppends (its.contents writer.now.output.now) (its.contents writer'.now.output.now) r bytes.now))
  streams_plain_write its = record { asks_nothing = λ κs a κ m. lasts T.lives none κ m; settles = λ κs a r e h. h }

  streams_plain_flush : (its : Write.Ghosts T.Denot) → Held (StreamsPlainFlush.Asked T laws its dict) (StreamsPlainFlush.Learnt T laws its dict)
      (λ κs a r e. let writer = a.0 in let writer' = e.0 in Keeps (its.contents writer.now.output.now) (its.contents writer'.now.output.now))
  streams_plain_flush its = record { asks_nothing = λ κs a κ m. lasts T.lives none κ m; settles = λ κs a r e h. h }

  -- Of what the output of this one holds nothing is said.
  streams_trying_write : (its : Write.Ghosts T.Denot) → Held (StreamsTryingWrite.Asked T laws its dict) (StreamsTryingWrite.Learnt T laws its dict)
      (λ κs a r e. let bytes = a.1.0 in WritesAtMost r bytes.now)
  streams_trying_write its = record { asks_nothing = λ κs a κ m. lasts T.lives none κ m; settles = λ κs a r e h. h.0 }

  streams_trying_flush : (its : Write.Ghosts T.Denot)
      → Held (StreamsTryingFlush.Asked T laws its dict) (StreamsTryingFlush.Learnt T laws its dict) (λ κs a r e. Unit {0})
  streams_trying_flush its = record { asks_nothing = λ κs a κ m. lasts T.lives none κ m; settles = λ κs a r e h. tt }

  streams_trying_write_all : (its : Write.Ghosts T.Denot)
      → Held (StreamsTryingWriteAll.Asked T laws its dict) (StreamsTryingWriteAll.Learnt T laws its dict) (λ κs a r e. Unit {0})
  streams_trying_write_all its = record { asks_nothing = λ κs a κ m. lasts T.lives none κ m; settles = λ κs a r e h. tt }

  streams_arg : (its : Env.Ghosts T.Denot) → Held (StreamsArg.Asked T laws its dict) (StreamsArg.Learnt T laws its dict)
      (λ κs a r e. let buf' = e.1.1.0 in IfSome r (λ count. IsPrefixLen count buf'.now))
  streams_arg its = record { asks_nothing = λ κs a κ m. lasts T.lives none κ m; settles = λ κs a r e h. h }

-- Of any reader, writer and value that shows; and that nothing is asked, where they borrow nothing.
module _ (R W S : RattleType) (reader : Laws R) (writer : Laws W) (shows : Laws S) (read-dict write-dict show-dict : Dict) where
  streams_show_input_by_told : (read : Read.Ghosts R.Denot) (write : Write.Ghosts W.Denot) (show : Show.Ghosts S.Denot W.Denot)
      → Settled (StreamsShowInputBy.Learnt R W S reader writer shows read read-dict write write-dict show show-dict)
      (λ κs a r e.
      let input = a.0 in let input' = e.0 in let output = a.1.0 in let output' = e.1.0 in let value = a.1.1.0 in
      let shown = ShownBy (show.shows value.now) output.now output'.now (read.remaining input.now) in
      (IsErrOf r Input ⊎ IsAtEnd (read.remaining input'.now))
      × ((IsErrOf r Input → output'.now ≡ output.now)
      × ((OnOk r (shown (Ok tt)))
      × (IsErrOf r Output → (x : Error) × shown (Err x)))))
  streams_show_input_by_told read write show = record { told = λ κs a r e h. h }

  module _ (no-loan-R : R.lives ≡ []) (no-loan-W : W.lives ≡ []) (no-loan-S : S.lives ≡ []) where
    streams_show_input_by : (read : Read.Ghosts R.Denot) (write : Write.Ghosts W.Denot) (show : Show.Ghosts S.Denot W.Denot)
        → Held (StreamsShowInputBy.Asked R W S reader writer shows read read-dict write write-dict show show-dict)
        (StreamsShowInputBy.Learnt R W S reader writer shows read read-dict write write-dict show show-dict)
        (λ κs a r e.
        let input = a.0 in let input' = e.0 in let output = a.1.0 in let output' = e.1.0 in let value = a.1.1.0 in
        let shown = ShownBy (show.shows value.now) output.now output'.now (read.remaining input.now) in
        (IsErrOf r Input ⊎ IsAtEnd (read.remaining input'.now))
        × ((IsErrOf r Input → output'.now ≡ output.now)
        × ((OnOk r (shown (Ok tt)))
        × (IsErrOf r Output → (x : Error) × shown (Err x)))))
    streams_show_input_by read write show = record {
      asks_nothing = λ κs a. (λ κ m. lasts R.lives no-loan-R κ m, (λ κ m. lasts W.lives no-loan-W κ m, λ κ m. lasts S.lives no-loan-S κ m));
      settles = (streams_show_input_by_told read write show).told;
    }

-- Of any reader, writer and closure. What `show_input` asks is that what it is handed may be called; and nothing more, where they borrow nothing.
module _ (R W F : RattleType) (reader : Laws R) (writer : Laws W) (shows : Laws F) (read-dict write-dict call-dict drop-dict : Dict) where
  streams_show_input : (read : Read.Ghosts R.Denot) (write : Write.Ghosts W.Denot) (call : ShowCall.Ghosts R W F)
      → Settled (StreamsShowInput.Learnt R W F reader writer shows read read-dict write write-dict call call-dict drop-dict)
      (λ κs a r e.
      let input = a.0 in let input' = e.0 in let output = a.1.0 in let output' = e.1.0 in
      let shown = Shown ((ShowCall.words R W F call).post a.1.1.0) output.now output'.now (read.remaining input.now) in
      (IsErrOf r Input ⊎ IsAtEnd (read.remaining input'.now))
      × ((IsErrOf r Input → output'.now ≡ output.now)
      × ((OnOk r (shown (Ok tt)))
      × (IsErrOf r Output → (x : Error) × shown (Err x)))))
  streams_show_input read write call = record { told = λ κs a r e h. h }

  module _ (no-loan-R : R.lives ≡ []) (no-loan-W : W.lives ≡ []) (no-loan-F : F.lives ≡ []) where
    streams_show_input_asks : (read : Read.Ghosts R.Denot) (write : Write.Ghosts W.Denot) (call : ShowCall.Ghosts R W F)
        → AsksNoMore (StreamsShowInput.Asked R W F reader writer shows read read-dict write write-dict call call-dict drop-dict)
        (λ κs a. (ShowCall.words R W F call).IsAlwaysCallable a.1.1.0)
    streams_show_input_asks read write call = record {
      enough = λ κs a callable.
          (λ κ m. lasts R.lives no-loan-R κ m, (λ κ m. lasts W.lives no-loan-W κ m, (λ κ m. lasts F.lives no-loan-F κ m, callable)));
    }

-- ---- `script`

script_line_after : Held ScriptLineAfter.Asked ScriptLineAfter.Learnt
    (λ κs a r e. let script = a.0 in let from = a.1.0 in (r ≡ line_after script.now from) × (r ≤ length script.now))
script_line_after = exactly

script_numbers_of : Held ScriptNumbersOf.Asked ScriptNumbersOf.Learnt (λ κs a r e. let line = a.0 in r ≡ numbers_of line.now)
script_numbers_of = exactly

-- ---- `tracefile`

tracefile_steps : Held TracefileSteps.Asked TracefileSteps.Learnt (λ κs a r e. let file = a.0 in r ≡ step_count file.now)
tracefile_steps = exactly

tracefile_command_at : Held TracefileCommandAt.Asked TracefileCommandAt.Learnt
    (λ κs a r e. let file = a.0 in let n = a.1.0 in let i = a.1.1.0 in command_is r ≡ command_at file.now n i)
tracefile_command_at = exactly

tracefile_refusal : Held TracefileRefusal.Asked TracefileRefusal.Learnt (λ κs a r e. let file = a.0 in number_in r ≡ file_refusal file.now)
tracefile_refusal = exactly

-- ---- `trace`

trace_list : Held TraceList.Asked TraceList.Learnt
    (λ κs a r e.
    let file = a.0 in let tags = a.1.0 in let tags' = e.1.0 in let valid = a.1.1.0 in let valid' = e.1.1.0 in
    let dirty = a.1.1.1.0 in let dirty' = e.1.1.1.0 in let words = a.1.1.1.1.0 in let words' = e.1.1.1.1.0 in
    let out = a.1.1.1.1.1.0 in let out' = e.1.1.1.1.1.0 in
    (listed_of r out'.now (tables_of tags'.now valid'.now dirty'.now words'.now)
    ≡ list_of file.now out.now (tables_of tags.now valid.now dirty.now words.now))
    × (IsPrefixLen r out'.now))
trace_list = exactly
