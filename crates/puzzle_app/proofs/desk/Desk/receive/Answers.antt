use Rattle.puzzle_app.proofs.Receiving.{board_comes}
use Rattle.puzzle_app.proofs.desk.Desk.receive.Goals as goal

pub returns-in-Board : goal.returns-in-Board
returns-in-Board c = board_comes c.args.grain c.args.common.now c.args.made.now c.in-Board.board c.args.self.now c.work.new.self
    c.work.result c.in-Board.is c.work.ensures
