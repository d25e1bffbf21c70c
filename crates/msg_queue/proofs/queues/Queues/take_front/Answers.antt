use Rattle.msg_queue.specs.State.{scene}
use Rattle.msg_queue.proofs.Takes.{front_short, left_live, sender_lives, sender_there, sender_room, sender_short, size_stays, got_taken}
use Rattle.msg_queue.proofs.queues.Queues.take_front.Goals as goal

pub copy_front-count-requires-clause-short : goal.copy_front-count-requires-clause-short
copy_front-count-requires-clause-short c = let s = scene c.args.kern.now c.args.self.now c.args.ram.now.bytes in front_short s c.args.id c.args.words.now c.requires.taken c.requires.kept

pub refill-requires-clause-live : goal.refill-requires-clause-live
refill-requires-clause-live c = let s = scene c.args.kern.now c.args.self.now c.args.ram.now.bytes in left_live s c.args.id c.args.words.now c.requires.taken c.requires.kept c.drop_front.new.self c.drop_front.ensures

pub refill-requires-clause-lives : goal.refill-requires-clause-lives
refill-requires-clause-lives c = let s = scene c.args.kern.now c.args.self.now c.args.ram.now.bytes in sender_lives s c.args.id c.args.words.now c.requires.taken c.requires.kept c.drop_front.new.self c.drop_front.ensures c.first_asking-sender.result c.first_asking-sender.ensures

pub refill-requires-clause-there : goal.refill-requires-clause-there
refill-requires-clause-there c =
    let s = scene c.args.kern.now c.args.self.now c.args.ram.now.bytes in
    sender_there s c.args.id c.args.words.now c.requires.taken c.requires.kept c.drop_front.new.self c.drop_front.ensures c.first_asking-sender.result c.first_asking-sender.ensures c.copy_front-count.new.ram.bytes (size_stays s c.args.id c.args.words.now c.requires.taken c.requires.kept c.copy_front-count.new.ram.bytes c.copy_front-count.ensures.ram)

pub refill-requires-clause-room : goal.refill-requires-clause-room
refill-requires-clause-room c = let s = scene c.args.kern.now c.args.self.now c.args.ram.now.bytes in sender_room s c.args.id c.args.words.now c.requires.taken c.requires.kept c.drop_front.new.self c.drop_front.ensures c.first_asking-sender.result c.first_asking-sender.ensures

pub refill-requires-clause-short : goal.refill-requires-clause-short
refill-requires-clause-short c = let s = scene c.args.kern.now c.args.self.now c.args.ram.now.bytes in sender_short s c.args.id c.args.words.now c.requires.taken c.requires.kept c.drop_front.new.self c.drop_front.ensures c.first_asking-sender.result c.first_asking-sender.ensures

pub returns-clause-scene : goal.returns-clause-scene
returns-clause-scene c =
    let s = scene c.args.kern.now c.args.self.now c.args.ram.now.bytes in
    got_taken s c.args.id c.args.words.now c.requires.taken c.requires.kept c.drop_front.new.self c.drop_front.ensures c.first_asking-sender.result c.first_asking-sender.ensures c.refill.new.kern c.refill.new.self c.copy_front-count.new.ram.bytes c.copy_front-count.ensures.ram c.refill.ensures
